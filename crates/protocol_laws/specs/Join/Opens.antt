-- A world before its first event is the opening world of the abstract machine.
use Rattle.std.proofs.Common.{◌≡◌, ℕ, zero, suc, Bool, true, false, eqb, List, ℤ, [], ◌∷◌, length, replicate}
use Rattle.std.proofs.Common.{Option, Some, None, option_map, refl, sym, ap, arith}
use Rattle.std.specs.Prelude.{◌==◌, slice_index, find, filter}
use Rattle.std.proofs.Math.Path.{fun_ext}
use Rattle.protocol.specs.Node.Common.{Network, Channel, received_at, log_at, base_in, sent_in, received_of, base_of}
use Rattle.protocol.specs.Node.Common.{sent_of, End, SavedEnd, opening_ends, opening_image, opening_record}
use Rattle.protocol.specs.World.Common.{net_seen, opening_traffic, image_seen, record_seen}
use Rattle.protocol.specs.World.Common.{SaysWhatWasSent, HasRun, world_seen, records_of, records_seen}
use Rattle.protocol.specs.World.Common.{taken_or, released_of, is_output, OutletView}
use Rattle.recovery_line.specs.Images.{blank}
use Rattle.recovery_line.specs.Nodes.{Running}
use Rattle.recovery_line.specs.Records.{new_record}
use Rattle.recovery_line.specs.Worlds.{opening}
use Rattle.recovery_line.proofs.Starting.{may_begin}
use Rattle.protocol_laws.specs.Join.Promises.{HaveTakenNothing}
use Rattle.protocol.specs.Join.Seen.{modes_seen}
use Rattle.protocol.specs.Node.Opening.{opening_end}
use Rattle.protocol.specs.World.OpeningWorld.{stations_from}
use Rattle.protocol_laws.specs.World.FlightLaws.{opened_holds}

module _ (net : Network) (home : ℕ) where
  -- a count that is 0 of an end to which nothing has come is 0 of every channel
  count_is_none : (count : Option End → ℕ) → count None ≡ 0
      → ((puts gets : Bool) → count (Some (opening_end puts gets)) ≡ 0) → (c number : ℕ) (channels : List Channel)
      → count (option_map (λ (s : SavedEnd). s.end)
      (find (λ (s : SavedEnd). eqb s.channel c) (opening_ends net home number channels))) ≡ 0
  count_is_none count none one c number [] = none
  count_is_none count none one c number (channel ∷ channels) =
      grind (arith, count_is_none count none one c (suc number) channels, one)

  -- all counts of an end are 0 as it opens
  nothing_yet : (puts gets : Bool) → (received_at (Some (opening_end puts gets)) ≡ 0)
      × (base_in (log_at (Some (opening_end puts gets))) ≡ 0) × (sent_in (log_at (Some (opening_end puts gets))) ≡ 0)
  nothing_yet true true = (refl, refl, refl)
  nothing_yet true false = (refl, refl, refl)
  nothing_yet false gets = (refl, refl, refl)

  image_opens : image_seen (opening_image net home) ≡ blank
  image_opens =
      rw (fun_ext received, fun_ext base, fun_ext sent) refl
    where
      received : (c : ℕ) → received_of (opening_image net home) c ≡ 0
      received c = count_is_none received_at refl (λ puts gets. (nothing_yet puts gets).0) c 0 net.channels

      base : (c : ℕ) → base_of (opening_image net home) c ≡ 0
      base c =
          count_is_none (λ (o : Option End). base_in (log_at o)) refl (λ puts gets. (nothing_yet puts gets).1) c 0
          net.channels

      sent : (c : ℕ) → sent_of (opening_image net home) c ≡ 0
      sent c =
          count_is_none (λ (o : Option End). sent_in (log_at o)) refl (λ puts gets. (nothing_yet puts gets).2) c 0
          net.channels

  record_opens : (nodes : ℕ) → record_seen (opening_record net nodes home) ≡ new_record
  record_opens nodes = rw (fun_ext (none nodes), image_opens) refl
    where
      none : (count x : ℕ) → slice_index (replicate count 0) x ≡ 0
      none zero x = refl
      none (suc count) zero = refl
      none (suc count) (suc x) = none count x

module _ (net : Network) (nodes : ℕ) (outlets : List OutletView) where
  records_open : (number : ℕ) (failures : List ℕ) (k : ℕ)
      → records_seen (records_of (stations_from net nodes number failures outlets)) k ≡ new_record
  records_open number [] k = refl
  records_open number (f ∷ failures) zero = record_opens net number nodes
  records_open number (f ∷ failures) (suc k) = records_open (suc number) failures k

  modes_open : (number : ℕ) (failures : List ℕ) (k : ℕ)
      → modes_seen (stations_from net nodes number failures outlets) k ≡ Running blank None
  modes_open number [] k = refl
  modes_open number (f ∷ failures) zero = rw (image_opens net number) refl
  modes_open number (f ∷ failures) (suc k) = modes_open (suc number) failures k

  nothing_found : (test : OutletView → Bool) (c : ℕ) (all : List OutletView) (others : List ℤ) → HaveTakenNothing all
      → others ≡ []
      → taken_or (find (λ (outlet : OutletView). outlet.channel == c) (filter test all)) others ≡ []
  nothing_found test c [] others nothing none = none
  nothing_found test c (o ∷ all) others nothing none =
      let here = nothing 0 o refl in
      grind (arith, nothing_found test c all others (λ i outlet is. nothing (suc i) outlet is) none)

  left_open : (c number : ℕ) (failures : List ℕ) → HaveTakenNothing outlets
      → released_of c (stations_from net nodes number failures outlets) ≡ []
  left_open c number [] nothing = refl
  left_open c number (f ∷ failures) nothing =
      nothing_found (λ (outlet : OutletView). is_output net number outlet.channel) c outlets
      (released_of c (stations_from net nodes (suc number) failures outlets)) nothing
      (left_open c (suc number) failures nothing)

  world_opens : (number : ℕ) (failures : List ℕ) → HaveTakenNothing outlets
      → world_seen (stations_from net nodes number failures outlets) [] ≡ opening
  world_opens number failures nothing =
      rw (
        fun_ext (records_open number failures),
        fun_ext (modes_open number failures),
        fun_ext (λ c. ap (length {A = ℤ}) (left_open c number failures nothing)),
      ) refl

  pub run_opens : (number : ℕ) (failures : List ℕ) → HaveTakenNothing outlets
      → HasRun net (stations_from net nodes number failures outlets) opening_traffic
  run_opens number failures nothing = record {
    sent = [];
    reached = record {
      start = opening;
      may = may_begin (net_seen net);
      worlds = [];
      run = sym (world_opens number failures nothing);
    };
    carries = opened_holds (λ to. SaysWhatWasSent []);
    flown = λ told was. absurd (cc);
  }
