-- Items at the end of an input.
use Rattle.std.proofs.Common.{◌≡◌, ◌↔◌, ℕ, zero, suc, ◌+◌, ◌<◌, ◌≤◌, ℤ, List, [], ◌∷◌, ◌++◌, length, Some, refl, sym}
use Rattle.std.proofs.Common.{ap, subst, ◌∙◌, append-nil, append_assoc, length-append, arith}
use Rattle.std.specs.Prelude.{slice_get, slice_set}
use Rattle.std.proofs.lemmas.List.{get_or-set_other, get_or-set_same, length-set, set-get_or}
use Rattle.std.proofs.lemmas.Option.{slice_get-get_or, slice_get_within}
use Rattle.kahn_net.specs.Laws.Prefixes.{prefix_of, prefix_refl, prefixes_refl, prefixes_trans}
use Rattle.kahn_net.specs.declared.limits.TheConstants.{MAX_COUNT}
use Rattle.protocol.specs.Node.Common.{Channel, Fits, history_of, IsPrefix, Network, Outside, Process}
use Rattle.protocol_laws.specs.Join.Leading.{set_there}
use Rattle.protocol_laws.specs.World.OutputLaws.{set_cases}
use Rattle.growing.specs.LaterInputs.{AreLaterInputs, fed}
use Rattle.growing.specs.Laws.{FedHasItems, FedInAnyOrder, FedInParts, FedIsLater, FedIsLonger, FedNothing}
use Rattle.growing.specs.Laws.{FedWhereMade, LaterAgain, OthersStay}

pub fed_has_items : FedHasItems
fed_has_items inputs input items within =
    get_or-set_same inputs input (history_of inputs input ++ items) [] within

pub others_stay : OthersStay
others_stay inputs input other items differs =
    get_or-set_other inputs input other (history_of inputs input ++ items) [] differs

longer_at : (inputs : List (List ℤ)) (input : ℕ) (items : List ℤ) (c : ℕ)
    → IsPrefix (history_of inputs c) (history_of (fed input items inputs) c)
longer_at [] input items c = refl
longer_at (x ∷ inputs) zero items zero = prefix_of (record { rest = items; is = refl })
longer_at (x ∷ inputs) zero items (suc c) = prefix_refl (history_of inputs c)
longer_at (x ∷ inputs) (suc input) items zero = prefix_refl x
longer_at (x ∷ inputs) (suc input) items (suc c) = longer_at inputs input items c

pub fed_is_longer : FedIsLonger
fed_is_longer inputs input items = record { at = longer_at inputs input items }

pub fed_nothing : FedNothing
fed_nothing inputs input =
    ap (slice_set inputs input) (append-nil (history_of inputs input)) ∙ set-get_or inputs input []

pub fed_in_parts : FedInParts
fed_in_parts [] input first second = refl
fed_in_parts (x ∷ inputs) zero first second = ap (λ (h : List ℤ). h ∷ inputs) (append_assoc x first second)
fed_in_parts (x ∷ inputs) (suc input) first second =
    ap (λ (rest : List (List ℤ)). x ∷ rest) (fed_in_parts inputs input first second)

pub fed_in_any_order : FedInAnyOrder
fed_in_any_order [] one other items others differs = refl
fed_in_any_order (x ∷ inputs) zero zero items others differs = absurd (differs refl)
fed_in_any_order (x ∷ inputs) zero (suc other) items others differs = refl
fed_in_any_order (x ∷ inputs) (suc one) zero items others differs = refl
fed_in_any_order (x ∷ inputs) (suc one) (suc other) items others differs =
    ap (λ (rest : List (List ℤ)). x ∷ rest)
    (fed_in_any_order inputs one other items others (λ same. differs (ap suc same)))

module _ (net : Network) (inputs : List (List ℤ)) (input : ℕ) (channel : Channel) (items : List ℤ)
    (fits : Fits net inputs) (there : slice_get net.channels input ≡ Some channel) where
  -- what the input has once it is fed
  abbrev grown : List ℤ
  grown = history_of inputs input ++ items

  grown_there : slice_get (fed input items inputs) input ≡ Some grown
  grown_there =
      let below = slice_get_within net.channels input channel there in
      let each = fits.count in
      let within : input < length inputs = omega (arith, below, each) in
      set_there inputs input (history_of inputs input) grown (slice_get-get_or inputs input [] within)

  later_from_outside : channel.producer ≡ Outside
      → AreLaterInputs net inputs (fed input items inputs)
      ↔ (length (history_of inputs input) + length items ≤ MAX_COUNT)
  later_from_outside outside = (short_enough, later)
    where
      count : length grown ≡ length (history_of inputs input) + length items
      count = length-append (history_of inputs input) items

      short_enough : AreLaterInputs net inputs (fed input items inputs)
          → length (history_of inputs input) + length items ≤ MAX_COUNT
      short_enough all = let few = all.fits.few input grown grown_there in omega (arith, few, count)

      later : length (history_of inputs input) + length items ≤ MAX_COUNT
          → AreLaterInputs net inputs (fed input items inputs)
      later few = record {
        longer = fed_is_longer inputs input items;
        fits =
            record {
              count = length-set inputs input grown ∙ fits.count;
              few =
                  λ c xs is. grind (arith, set_cases inputs input c grown xs is, fits.few c xs, few, count);
              inside =
                  λ c end xs on is p from. grind
                  (arith, set_cases inputs input c grown xs is, fits.inside c end xs on, on, there, from, outside, p);
            };
      }

  later_where_made : (p : ℕ) → channel.producer ≡ Process p
      → AreLaterInputs net inputs (fed input items inputs) ↔ (items ≡ [])
  later_where_made p from = (
    λ later. rest_of_none (history_of inputs input) (later.fits.inside input channel grown there grown_there p from),
    λ none. subst (λ (xs : List ℤ). AreLaterInputs net inputs (fed input xs inputs)) (sym none)
        (subst (AreLaterInputs net inputs) (sym (fed_nothing inputs input))
        (record { longer = prefixes_refl inputs; fits = fits })),
  )
    where
      rest_of_none : (xs : List ℤ) → xs ++ items ≡ [] → items ≡ []
      rest_of_none [] none = none
      rest_of_none (x ∷ xs) none = absurd (cc)

pub fed_is_later : FedIsLater
fed_is_later net inputs input channel items fits there = later_from_outside net inputs input channel items fits there

pub fed_where_made : FedWhereMade
fed_where_made net inputs input p channel items fits there =
    later_where_made net inputs input channel items fits there p

pub later_again : LaterAgain
later_again net first second third once again =
    record { longer = prefixes_trans first second third once.longer again.longer; fits = again.fits }
