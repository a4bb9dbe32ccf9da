-- What has left a world is a prefix of each channel's history, in one approximation.
use Rattle.std.proofs.Common.{◌≡◌, ℕ, zero, suc, ◌+◌, ◌≤◌, ℤ, List, [], ◌∷◌, refl, subst, arith}
use Rattle.std.proofs.Math.Logic.{∥∥₁_map, ∥∥₁_map₂}
use Rattle.protocol.specs.Node.Common.{history_of, Fits, IsValid, Network, sent_on, approximation, RecordView}
use Rattle.protocol.specs.Node.Common.{acts_of}
use Rattle.kahn_net.specs.Laws.Approximations.{approximations_grow}
use Rattle.kahn_net.specs.Laws.Prefixes.{prefix_trans}
use Rattle.protocol_laws.specs.Node.ReleaseLaws.{acts_put_prefix}
use Rattle.protocol.specs.World.Common.{AreApproximated, outputs_of, AreSound, WorldInvariant, OutputView}
use Rattle.protocol.specs.World.Common.{RecordIsSound, StationView, WorldView}
use Rattle.protocol.specs.World.Headline.{AreWithin, AreAllWithin}
use Rattle.protocol.specs.World.RecordSound.{RecordHasCome}
use Rattle.protocol_laws.specs.World.OutputLaws.{output_here}

module _ (net : Network) (inputs : List (List ℤ)) (kept : RecordView) (outputs : List OutputView) where
  -- the approximation behind the one on which the record stands
  within_next : RecordIsSound net inputs kept outputs → (come : RecordHasCome net inputs kept outputs)
      → AreWithin net inputs outputs (suc come.n)
  within_next sound come j output is =
      let there = output_here net kept.node outputs sound.listed j output is in
      let acts = acts_of net (approximation net inputs come.n) come.permanent_acts there.process in
      prefix_trans output.taken (sent_on output.channel acts)
      (history_of (approximation net inputs (suc come.n)) output.channel)
      (come.released j there.process output there.channel is there.there there.producer)
      (acts_put_prefix net inputs come.n come.permanent_acts output.channel there.process there.channel there.there
      there.producer)

  station_within : RecordIsSound net inputs kept outputs → ∥ ((n : ℕ) × AreWithin net inputs outputs n) ∥₁
  station_within sound = ∥∥₁_map sound.come (λ come. (suc come.n, within_next sound come))

  -- and in each later one
  within_later : IsValid net → Fits net inputs → (m n : ℕ) → m ≤ n → AreWithin net inputs outputs m
      → AreWithin net inputs outputs n
  within_later valid fits m n later within j output is =
      prefix_trans output.taken (history_of (approximation net inputs m) output.channel)
      (history_of (approximation net inputs n) output.channel) (within j output is)
      ((approximations_grow net valid inputs fits m n later).at output.channel)

-- Each station stands on an approximation of its own, and a later one serves them all.
all_within : (net : Network) (inputs : List (List ℤ)) → IsValid net → Fits net inputs → (stations : List StationView)
    → AreSound net inputs stations → ∥ ((n : ℕ) × AreAllWithin net inputs stations n) ∥₁
all_within net inputs valid fits [] sound = ∣ (0, λ i station is. absurd (cc)) ∣₁
all_within net inputs valid fits (s ∷ stations) sound =
    ∥∥₁_map₂ (station_within net inputs s.node.kept (outputs_of s.outlets) (sound 0 s refl).kept)
    (all_within net inputs valid fits stations (λ i station is. sound (suc i) station is))
    (λ one others. (one.0 + others.0, at one.0 others.0 one.1 others.1))
  where
    at : (m k : ℕ) → AreWithin net inputs (outputs_of s.outlets) m → AreAllWithin net inputs stations k
        → AreAllWithin net inputs (s ∷ stations) (m + k)
    at m k one others zero station is =
        let same : s ≡ station = cc in
        subst (λ (t : StationView). AreWithin net inputs (outputs_of t.outlets) (m + k)) same
        (within_later net inputs s.node.kept (outputs_of s.outlets) valid fits m (m + k) (omega arith) one)
    at m k one others (suc i) station is =
        within_later net inputs station.node.kept (outputs_of station.outlets) valid fits k (m + k) (omega arith)
        (others i station is)

pub released_prefix : (world : WorldView) → WorldInvariant world → AreApproximated world
released_prefix world inv = all_within world.net world.inputs inv.valid inv.fits world.stations inv.stations
