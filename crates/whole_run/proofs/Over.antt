-- Where nothing is left to do nothing more leaves, as long as nothing comes.
use Rattle.std.proofs.Common.{◌≡◌, inl, inr, ℕ, suc, ◌+◌, ℤ, List, [], ◌∷◌, map, Some, refl, sym, ap, subst, ◌∙◌, arith}
use Rattle.std.specs.Prelude.{slice_get, IsTrue}
use Rattle.std.proofs.Math.Logic.{∥∥₁_elim}
use Rattle.std.proofs.Props.{props}
use Rattle.std.proofs.lemmas.Bool.{cases_lt}
use Rattle.kahn_net.specs.Approximations.{IsReached}
use Rattle.kahn_net.specs.Laws.Approximations.{agreement, approximations_grow}
use Rattle.kahn_net.specs.Laws.Fixpoints.{prefix_both}
use Rattle.kahn_net.specs.Laws.Prefixes.{prefix_refl, prefix_trans}
use Rattle.protocol.specs.Node.Common.{approximation, Fits, history_of, IsPrefix, IsValid, Network}
use Rattle.protocol.specs.World.Common.{AreApproximated, are_quiet, output_channels, output_of, outputs_of, released_of}
use Rattle.protocol.specs.World.Common.{StationView, WorldInvariant, WorldView}
use Rattle.protocol.specs.World.Growing.{EachBegins}
use Rattle.protocol.specs.World.Headline.{AreAllWithin}
use Rattle.protocol.specs.World.Quiet.{AreAll}
use Rattle.protocol_laws.specs.World.OutputLaws.{channel_there, map_at}
use Rattle.protocol_laws.specs.World.PrefixLaws.{released_prefix}
use Rattle.protocol_laws.specs.World.QuietLaws.{quiet_is_whole}
use Rattle.protocol_laws.specs.World.ShownLaws.{output_shown}
use Rattle.starting_again.specs.WasLeft.{output_left, outputs_left}
use Rattle.whole_run.proofs.Left.{released_within}

-- each approximation is below one at which they have come to rest
below_rest : (net : Network) (inputs : List (List ℤ)) (m n : ℕ) → IsValid net → Fits net inputs → IsReached net inputs n
    → (c : ℕ) → IsPrefix (history_of (approximation net inputs m) c) (history_of (approximation net inputs n) c)
below_rest net inputs m n valid fits rests c = elim (cases_lt m n) [
  | inl below ↦ (approximations_grow net valid inputs fits m n (omega (arith, below))).at c
  | inr past ↦
      subst (λ (histories : List (List ℤ)). IsPrefix (history_of (approximation net inputs m) c)
      (history_of histories c))
      (agreement net inputs n m rests past) (prefix_refl (history_of (approximation net inputs m) c))
]

-- the same at each place makes the same list
map_alike : {A : Type 0} (f g : ℕ → A) (xs : List ℕ) → ((j x : ℕ) → slice_get xs j ≡ Some x → f x ≡ g x)
    → map f xs ≡ map g xs
map_alike f g [] each = refl
map_alike {A} f g (x ∷ xs) each =
    ap (λ (y : A). y ∷ map f xs) (each 0 x refl)
    ∙ ap (λ (ys : List A). g x ∷ ys) (map_alike f g xs (λ j y is. each (suc j) y is))

module _ (world last : WorldView) (inv : WorldInvariant world) (later : WorldInvariant last)
    (same_net : last.net ≡ world.net) (same_inputs : last.inputs ≡ world.inputs)
    (kept : EachBegins (outputs_left world) (outputs_left last)) where
  abbrev IsEnd : ℕ → Type 0
  IsEnd n = IsReached world.net world.inputs n
      × ((i : ℕ) (station : StationView) → slice_get world.stations i ≡ Some station
      → AreAll world.net world.inputs (outputs_of station.outlets) n)

  -- by an output all of its history has left
  all_left : (n : ℕ) → IsEnd n → (j c : ℕ) → slice_get (output_channels 0 world.net.channels) j ≡ Some c
      → released_of c world.stations ≡ history_of (approximation world.net world.inputs n) c
  all_left n end j c listed =
      let there = channel_there 0 world.net.channels j c listed in
      let number : there.0 ≡ c = (let sum : 0 + there.0 ≡ there.0 = omega arith in sym sum ∙ sym there.2) in
      let on : slice_get world.net.channels c ≡ Some there.1 =
      ap (slice_get world.net.channels) (sym number) ∙ there.3 in
      let seen = output_shown world inv c there.1 on there.4 in
      let shown = seen.at.shown in
      shown.shows
      ∙ (end.1 seen.home seen.at.station seen.at.here shown.place (output_of shown.outlet)
      (map_at output_of seen.at.station.outlets shown.place shown.outlet shown.there)
      ∙ ap (history_of (approximation world.net world.inputs n)) shown.channel)

  same_released : (n m : ℕ) → IsEnd n → AreAllWithin world.net world.inputs last.stations m → (j c : ℕ)
      → slice_get (output_channels 0 world.net.channels) j ≡ Some c
      → released_of c last.stations ≡ released_of c world.stations
  same_released n m end within j c listed =
      prefix_both (released_of c last.stations) (released_of c world.stations)
      (subst (IsPrefix (released_of c last.stations)) (sym (all_left n end j c listed))
      (prefix_trans (released_of c last.stations) (history_of (approximation world.net world.inputs m) c)
      (history_of (approximation world.net world.inputs n) c)
      (released_within world.net world.inputs m c last.stations within)
      (below_rest world.net world.inputs m n inv.valid inv.fits end.0 c)))
      (kept.begins j (output_left world.stations c) (output_left last.stations c)
      (map_at (output_left world.stations) (output_channels 0 world.net.channels) j c listed)
      (map_at (output_left last.stations) (output_channels 0 last.net.channels) j c
      (ap (λ (net : Network). slice_get (output_channels 0 net.channels) j) same_net ∙ listed))).1

  within_last : AreApproximated last → ∥ ((m : ℕ) × AreAllWithin world.net world.inputs last.stations m) ∥₁
  within_last =
      subst (λ (inputs : List (List ℤ)). ∥ ((n : ℕ) × AreAllWithin last.net last.inputs last.stations n) ∥₁
      → ∥ ((m : ℕ) × AreAllWithin world.net inputs last.stations m) ∥₁) same_inputs
      (subst (λ (net : Network). ∥ ((n : ℕ) × AreAllWithin last.net last.inputs last.stations n) ∥₁
      → ∥ ((m : ℕ) × AreAllWithin net last.inputs last.stations m) ∥₁) same_net (λ within. within))

  pub over_stays : IsTrue (are_quiet world) → outputs_left last ≡ outputs_left world
  over_stays quiet =
      ∥∥₁_elim (quiet_is_whole world inv quiet) (hlevel props)
      (λ end. ∥∥₁_elim (within_last (released_prefix last later)) (hlevel props)
      (λ within. same end.0 within.0 (end.1, end.2) within.1))
    where
      same : (n m : ℕ) → IsEnd n → AreAllWithin world.net world.inputs last.stations m
          → outputs_left last ≡ outputs_left world
      same n m end within =
          ap (λ (net : Network). map (output_left last.stations) (output_channels 0 net.channels)) same_net
          ∙ map_alike (output_left last.stations) (output_left world.stations) (output_channels 0 world.net.channels)
          (λ j c listed. ap (λ (items : List ℤ). record { channel = c; taken = items })
          (same_released n m end within j c listed))
