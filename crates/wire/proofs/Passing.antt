-- What holds of the bytes of each packet in flight.
use Rattle.std.proofs.Common.{◌≡◌, ℕ, suc, ◌+◌, List, [], ◌∷◌, ◌++◌, take, drop, Option, Some, None, option_map, All}
use Rattle.std.proofs.Common.{refl, subst}
use Rattle.std.specs.Prelude.{slice_get, remove}
use Rattle.std.specs.Option.{option_to_list}
use Rattle.std.proofs.lemmas.List.Elements.{All-nil, All-append, All-take, All-drop, All-set, All-replicate, All-get_or}
use Rattle.std.proofs.lemmas.Option.{slice_get_within, get_or_from_slice_get}
use Rattle.wire.specs.declared.queue.Flight.{Flight}
use Rattle.wire.specs.declared.rule.Fate.{Fate}
use Rattle.wire.specs.Rules.{capped}
use Rattle.wire.specs.Queue.{flight, flights_of, replaced, with_delay, with_copy}

module _ (P : List ℕ → Type 0) where
  abbrev Holds : Flight → Type 0
  Holds f = P f.packet

  abbrev AllHold : List Flight → Type 0
  AllHold flights = All Holds flights

  -- it holds of the one at a place
  pub at_place : (flights : List Flight) (place : ℕ) (f : Flight) → AllHold flights → slice_get flights place ≡ Some f
      → Holds f
  at_place flights place f all there =
      subst Holds (get_or_from_slice_get flights place f f there)
      (All-get_or Holds flights place f (slice_get_within flights place f there) all)

  pub sent_passes : (flights : List Flight) (fate : Fate) (packet : List ℕ) (round : ℕ) → AllHold flights → P packet
      → AllHold (flights ++ flights_of fate packet round)
  sent_passes flights fate packet round all one =
      All-append Holds flights (flights_of fate packet round) all
      (All-replicate Holds fate.copies (flight packet (capped (round + fate.delay))) one)

  copy_passes : (flights : List Flight) (place : ℕ) (found : Option Flight) → slice_get flights place ≡ found
      → AllHold flights → AllHold (flights ++ option_to_list found)
  copy_passes flights place None there all = All-append Holds flights [] all (All-nil Holds)
  copy_passes flights place (Some f) there all =
      All-append Holds flights (f ∷ []) all (All-replicate Holds 1 f (at_place flights place f all there))

  pub repeated_passes : (flights : List Flight) (place : ℕ) → AllHold flights → AllHold (with_copy flights place)
  repeated_passes flights place all = copy_passes flights place (slice_get flights place) refl all

  late_passes : (flights : List Flight) (place rounds : ℕ) (found : Option Flight) → slice_get flights place ≡ found
      → AllHold flights
      → AllHold (replaced flights place (option_map (λ f. flight f.packet (capped (f.due + rounds))) found))
  late_passes flights place rounds None there all = all
  late_passes flights place rounds (Some f) there all =
      All-set Holds flights place (flight f.packet (capped (f.due + rounds))) (at_place flights place f all there) all

  pub delayed_passes : (flights : List Flight) (place rounds : ℕ) → AllHold flights
      → AllHold (with_delay flights place rounds)
  delayed_passes flights place rounds all = late_passes flights place rounds (slice_get flights place) refl all

  pub gone_passes : (flights : List Flight) (place : ℕ) → AllHold flights → AllHold (remove flights place)
  gone_passes flights place all =
      All-append Holds (take place flights) (drop (suc place) flights) (All-take Holds place flights all)
      (All-drop Holds (suc place) flights all)

  found_passes : (flights : List Flight) (place : ℕ) (packet : List ℕ) (found : Option Flight)
      → slice_get flights place ≡ found → AllHold flights
      → option_map (λ f. f.packet) found ≡ Some packet → P packet
  found_passes flights place packet None there all is = absurd cc
  found_passes flights place packet (Some f) there all is =
      let same : f.packet ≡ packet = cc in
      subst P same (at_place flights place f all there)

  pub arrived_passes : (flights : List Flight) (place : ℕ) (packet : List ℕ) → AllHold flights
      → option_map (λ f. f.packet) (slice_get flights place) ≡ Some packet → P packet
  arrived_passes flights place packet all is = found_passes flights place packet (slice_get flights place) refl all is
