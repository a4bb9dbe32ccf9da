-- What has left, by output.
use Rattle.std.proofs.Common.{◌≡◌, ◌≢◌, ◌⊎◌, inl, inr, ℕ, zero, suc, Bool, true, false, cond, eqb, ℤ, List, [], ◌∷◌}
use Rattle.std.proofs.Common.{length, map, Option, Some, None, refl, sym, ap, subst, ◌∙◌, arith}
use Rattle.std.specs.Prelude.{find, slice_get}
use Rattle.std.proofs.Math.Path.{fun_ext}
use Rattle.std.proofs.lemmas.Bool.Decides.{eqb_tells}
use Rattle.std.proofs.lemmas.List.{length-map}
use Rattle.std.proofs.lemmas.Option.{slice_get_cases, slice_get_within}
use Rattle.kahn_net.specs.Laws.Prefixes.{prefix_nil, prefix_trans}
use Rattle.protocol.specs.Node.Common.{approximation, history_of, IsPrefix, Network}
use Rattle.protocol.specs.World.Common.{is_output, output_channels, output_of, outputs_of, OutletView, OutputView}
use Rattle.protocol.specs.World.Common.{outlets_seen, released_of, StationView, taken_or, WorldInvariant, WorldView}
use Rattle.protocol.specs.World.Growing.{EachBegins}
use Rattle.protocol.specs.World.Headline.{AreAllWithin, AreWithin}
use Rattle.protocol_laws.specs.Node.ImageLaws.{map_got}
use Rattle.protocol_laws.specs.World.OutputLaws.{map_at}
use Rattle.resuming.proofs.Lists.{kept_from}
use Rattle.starting_again.proofs.Leaving.{own_outputs}
use Rattle.starting_again.specs.WasLeft.{output_left, outputs_at, outputs_left}
use Rattle.whole_run.specs.Machine.{count_left}

-- ---- what has left goes on

-- where by each channel what has left goes on, it does by each output
pub by_outputs : (olds news : List StationView) (channels : List ℕ)
    → ((c : ℕ) → IsPrefix (released_of c olds) (released_of c news))
    → EachBegins (map (output_left olds) channels) (map (output_left news) channels)
by_outputs olds news channels each = record {
  count = length-map channels (output_left news) ∙ sym (length-map channels (output_left olds));
  begins = at;
}
  where
    at : (j : ℕ) (output later : OutputView) → slice_get (map (output_left olds) channels) j ≡ Some output
        → slice_get (map (output_left news) channels) j ≡ Some later
        → (later.channel ≡ output.channel) × IsPrefix output.taken later.taken
    at j output later is then_is =
        let old = map_got (output_left olds) channels j output is in
        let new = map_got (output_left news) channels j later then_is in
        let both : Some (new.0) ≡ Some (old.0) = sym new.1 ∙ old.1 in
        let same : new.0 ≡ old.0 = cc in (
          sym (ap (λ (o : OutputView). o.channel) new.2) ∙ (same ∙ ap (λ (o : OutputView). o.channel) old.2),
          subst (λ (o : OutputView). IsPrefix o.taken later.taken) old.2
              (subst (λ (o : OutputView). IsPrefix (released_of old.0 olds) o.taken) new.2
              (subst (λ (c : ℕ). IsPrefix (released_of old.0 olds) (released_of c news)) (sym same) (each old.0))),
        )

pub begins_then : (xs ys zs : List OutputView) → EachBegins xs ys → EachBegins ys zs → EachBegins xs zs
begins_then xs ys zs one other = record { count = other.count ∙ one.count; begins = at }
  where
    at : (j : ℕ) (x z : OutputView) → slice_get xs j ≡ Some x → slice_get zs j ≡ Some z
        → (z.channel ≡ x.channel) × IsPrefix x.taken z.taken
    at j x z is then_is = elim (slice_get_cases ys j).1 [
      | inl there ↦
          let first = one.begins j x there.0 is there.2 in
          let second = other.begins j there.0 z there.2 then_is in
          (second.0 ∙ first.0, prefix_trans x.taken there.0.taken z.taken first.1 second.1)
      | inr past ↦ absurd (
          let within = slice_get_within xs j x is in
          let count = one.count in
          omega (arith, past.0, within, count))
    ]

-- ---- in one approximation

module _ (net : Network) (inputs : List (List ℤ)) (n : ℕ) where
  abbrev History : ℕ → List ℤ
  History c = history_of (approximation net inputs n) c

  found_within : (c : ℕ) (outlets : List OutletView) (others : List ℤ) → AreWithin net inputs (outputs_of outlets) n
      → IsPrefix others (History c)
      → IsPrefix (taken_or (find (λ (o : OutletView). eqb o.channel c) outlets) others) (History c)
  found_within c [] others within front = front
  found_within c (x ∷ outlets) others within front =
      at (eqb_tells x.channel c) (found_within c outlets others (λ j output is. within (suc j) output is) front)
    where
      rest : Option OutletView
      rest = find (λ (o : OutletView). eqb o.channel c) outlets

      at : ((eqb x.channel c ≡ true) × (x.channel ≡ c)) ⊎ ((eqb x.channel c ≡ false) × (x.channel ≢ c))
          → IsPrefix (taken_or rest others) (History c)
          → IsPrefix (taken_or (cond (eqb x.channel c) (Some x) rest) others) (History c)
      at (inl here) later =
          subst (λ (b : Bool). IsPrefix (taken_or (cond b (Some x) rest) others) (History c)) (sym here.0)
          (subst (λ (d : ℕ). IsPrefix x.taken (History d)) here.1 (within 0 (output_of x) refl))
      at (inr other) later =
          subst (λ (b : Bool). IsPrefix (taken_or (cond b (Some x) rest) others) (History c)) (sym other.0) later

  pub released_within : (c : ℕ) (stations : List StationView) → AreAllWithin net inputs stations n
      → IsPrefix (released_of c stations) (History c)
  released_within c [] within = prefix_nil [] (History c) refl
  released_within c (s ∷ stations) within =
      found_within c s.outlets (released_of c stations) (within 0 s refl)
      (released_within c stations (λ i station is. within (suc i) station is))

  pub left_within : (stations : List StationView) (channels : List ℕ) → AreAllWithin net inputs stations n
      → AreWithin net inputs (map (output_left stations) channels) n
  left_within stations channels within j output is =
      let had = map_got (output_left stations) channels j output is in
      subst (λ (o : OutputView). IsPrefix o.taken (History o.channel)) had.2 (released_within had.0 stations within)

-- ---- how many items have left

-- where no outlet is of a channel, nothing has left by it
none_found : (c : ℕ) (outlets : List OutletView) (others : List ℤ)
    → ((j : ℕ) (o : OutletView) → slice_get outlets j ≡ Some o → o.channel ≢ c)
    → taken_or (find (λ (o : OutletView). eqb o.channel c) outlets) others ≡ others
none_found c [] others none = refl
none_found c (x ∷ outlets) others none =
    at (eqb_tells x.channel c) (none_found c outlets others (λ j o is. none (suc j) o is))
  where
    rest : Option OutletView
    rest = find (λ (o : OutletView). eqb o.channel c) outlets

    at : ((eqb x.channel c ≡ true) × (x.channel ≡ c)) ⊎ ((eqb x.channel c ≡ false) × (x.channel ≢ c))
        → taken_or rest others ≡ others → taken_or (cond (eqb x.channel c) (Some x) rest) others ≡ others
    at (inl here) later = absurd (none 0 x refl here.1)
    at (inr other) later = ap (λ (b : Bool). taken_or (cond b (Some x) rest) others) other.0 ∙ later

none_released : (c : ℕ) (stations : List StationView)
    → ((i : ℕ) (s : StationView) → slice_get stations i ≡ Some s → (j : ℕ) (o : OutletView)
    → slice_get s.outlets j ≡ Some o → o.channel ≢ c)
    → released_of c stations ≡ []
none_released c [] none = refl
none_released c (s ∷ stations) none =
    none_found c s.outlets (released_of c stations) (none 0 s refl)
    ∙ none_released c stations (λ i t is. none (suc i) t is)

counted : (c : ℕ) (stations : List StationView) (channels : List ℕ)
    → (count_left (map (output_left stations) channels) c ≡ length (released_of c stations))
    ⊎ ((count_left (map (output_left stations) channels) c ≡ 0)
    × ((j : ℕ) → slice_get channels j ≢ Some c))
counted c stations [] = inr (refl, λ j is. (let bad : None ≡ Some c = is in cc))
counted c stations (d ∷ channels) = at (eqb_tells d c) (counted c stations channels)
  where
    rest : ℕ
    rest = count_left (map (output_left stations) channels) c

    at : ((eqb d c ≡ true) × (d ≡ c)) ⊎ ((eqb d c ≡ false) × (d ≢ c))
        → (rest ≡ length (released_of c stations)) ⊎ ((rest ≡ 0) × ((j : ℕ) → slice_get channels j ≢ Some c))
        → (cond (eqb d c) (length (released_of d stations)) rest ≡ length (released_of c stations))
        ⊎ ((cond (eqb d c) (length (released_of d stations)) rest ≡ 0)
        × ((j : ℕ) → slice_get (d ∷ channels) j ≢ Some c))
    at (inl here) later = inl
        (ap (λ (b : Bool). cond b (length (released_of d stations)) rest) here.0
        ∙ ap (λ (e : ℕ). length (released_of e stations)) here.1)
    at (inr other) (inl found) = inl
        (ap (λ (b : Bool). cond b (length (released_of d stations)) rest) other.0 ∙ found)
    at (inr other) (inr none) = inr (
      ap (λ (b : Bool). cond b (length (released_of d stations)) rest) other.0 ∙ none.0,
      not_there,
    )
      where
        not_there : (j : ℕ) → slice_get (d ∷ channels) j ≢ Some c
        not_there zero is = other.1 (let same : d ≡ c = cc in same)
        not_there (suc j) is = none.1 j is

module _ (world : WorldView) (inv : WorldInvariant world) where
  -- each outlet is of one of the network's outputs
  listed_there : (c i : ℕ) (s : StationView) → slice_get world.stations i ≡ Some s → (j : ℕ) (o : OutletView)
      → slice_get s.outlets j ≡ Some o → o.channel ≡ c
      → (k : ℕ) × (slice_get (output_channels 0 world.net.channels) k ≡ Some c)
  listed_there c i s here j o there is =
      let own : slice_get (outputs_at world.net i (outputs_left world)) j ≡ Some (output_of o) =
      ap (λ (os : List OutputView). slice_get os j) (sym (own_outputs world inv i s here))
      ∙ map_at output_of s.outlets j o there in
      let from = kept_from (λ (output : OutputView). is_output world.net i output.channel) (outputs_left world) j
      (output_of o) own in
      let had =
      map_got (output_left world.stations) (output_channels 0 world.net.channels) from.0 (output_of o) from.1 in
      (from.0, had.1 ∙ ap (λ (d : ℕ). Some d) (ap (λ (output : OutputView). output.channel) had.2 ∙ is))

  pub count_is : (c : ℕ) → count_left (outputs_left world) c ≡ outlets_seen world.stations c
  count_is c = elim (counted c world.stations (output_channels 0 world.net.channels)) [
    | inl found ↦ found
    | inr none ↦
        none.0
        ∙ sym (ap (length {A = ℤ}) (none_released c world.stations
        (λ i s here j o there is. (let listed = listed_there c i s here j o there is in none.1 listed.0 listed.1))))
  ]

  pub counts_are : count_left (outputs_left world) ≡ outlets_seen world.stations
  counts_are = fun_ext count_is
