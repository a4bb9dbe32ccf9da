-- The search for the ready process with the least number from one on.
use Rattle.std.proofs.Common.{◌≡◌, ℕ, zero, suc, ◌+◌, ◌<◌, ◌≤◌, Bool, true, false, ◌&&◌, eqb, cond, List, [], ◌∷◌, map}
use Rattle.std.proofs.Common.{length, get_or, drop, Option, Some, None, is_some, find, option_map, IfSome, refl, sym}
use Rattle.std.proofs.Common.{ap, ◌-◌, ◌∙◌, arith}
use Rattle.std.specs.List.{range_with_len}
use Rattle.std.proofs.lemmas.List.{at_drop_all, get_or-drop, length-drop}
use Rattle.std.proofs.lemmas.List.FromFn.{length-map-range_with_len, get_or-map-range_with_len}
use Rattle.turns.specs.Turns.{first_ready, least_from}
use Rattle.protocol.specs.Node.Common.{SavedProcessView}
use Rattle.node_memory.specs.Searching.{IsBefore}

abbrev pub is_of : (SavedProcessView → Bool) → ℕ → SavedProcessView → Bool
is_of goes number saved = eqb saved.number number && goes saved

-- Of these processes the rest wasn't looked at yet: the one found is the first ready one of its number, and any with a
-- lesser number is among the rest.
pub record IsSearched (goes : SavedProcessView → Bool) (all rest : List SavedProcessView) (start : ℕ)
    (found : Option SavedProcessView) : Type 0 where
  pub chosen : IfSome found (λ saved. (start ≤ saved.number) × (find (is_of goes saved.number) all ≡ Some saved))
  pub later : (number : ℕ) → start ≤ number → IsBefore number found
      → find (is_of goes number) rest ≡ find (is_of goes number) all

-- the first ready one of a list
none_first : (number : ℕ) (ready : List Bool) → ((k : ℕ) → k < length ready → get_or ready k false ≡ false)
    → first_ready number ready ≡ None
none_first number [] none = refl
none_first number (b ∷ ready) none =
    ap (λ (first : Bool). cond first (Some number) (first_ready (suc number) ready)) (none 0 (omega arith))
    ∙ none_first (suc number) ready (λ k below. none (suc k) (omega (arith, below)))

some_first : (number k place : ℕ) (ready : List Bool) → k < length ready → number + k ≡ place
    → get_or ready k false ≡ true → ((j : ℕ) → j < k → get_or ready j false ≡ false)
    → first_ready number ready ≡ Some place
some_first number k place [] below sum is none = absurd (omega (arith, below))
some_first number zero place (b ∷ ready) below sum is none =
    ap (λ (first : Bool). cond first (Some number) (first_ready (suc number) ready)) is
    ∙ ap (λ (n : ℕ). Some n) (let own : number ≡ place = omega (arith, sum) in own)
some_first number (suc k) place (b ∷ ready) below sum is none =
    ap (λ (first : Bool). cond first (Some number) (first_ready (suc number) ready)) (none 0 (omega arith))
    ∙ some_first (suc number) k place ready (omega (arith, below)) (omega (arith, sum)) is
    (λ j less. none (suc j) (omega (arith, less)))

-- whether there is a ready one of each number below this
abbrev pub are_ready : (SavedProcessView → Bool) → List SavedProcessView → ℕ → List Bool
are_ready goes all count = map (λ (number : ℕ). is_some (find (is_of goes number) all)) (range_with_len 0 count)

ready_at : (goes : SavedProcessView → Bool) (all : List SavedProcessView) (count start k number : ℕ)
    → start + k ≡ number → number < count
    → get_or (drop start (are_ready goes all count)) k false ≡ is_some (find (is_of goes number) all)
ready_at goes all count start k number sum below =
    get_or-drop start (are_ready goes all count) k false
    ∙ get_or-map-range_with_len (λ (n : ℕ). is_some (find (is_of goes n) all)) 0 count (start + k) number false
    (omega (arith, sum, below)) (omega (arith, sum))

many_left : (goes : SavedProcessView → Bool) (all : List SavedProcessView) (count start k : ℕ)
    → k < length (drop start (are_ready goes all count)) → start + k < count
many_left goes all count start k below =
    let left = length-drop start (are_ready goes all count) in
    let whole = length-map-range_with_len (λ (n : ℕ). is_some (find (is_of goes n) all)) 0 count in
    omega (arith, left, whole, below)

-- all were looked at: the one found has the least number of the ready ones
pub all_searched : (goes : SavedProcessView → Bool) (all : List SavedProcessView) (i count start : ℕ)
    (found : Option SavedProcessView) → length all ≤ i
    → IfSome found (λ saved. saved.number < count) → IsSearched goes all (drop i all) start found
    → option_map (λ saved. saved.number) found ≡ least_from start (are_ready goes all count)
all_searched goes all i count start found end there searched = by found there searched
  where
    not_there : (o : Option SavedProcessView) → IsSearched goes all (drop i all) start o → (number : ℕ)
        → start ≤ number → IsBefore number o → is_some (find (is_of goes number) all) ≡ false
    not_there o s number from before =
        ap (λ (f : Option SavedProcessView). is_some f)
        (sym (s.later number from before) ∙ at_drop_all (find (is_of goes number)) all i end)

    by : (o : Option SavedProcessView) → IfSome o (λ saved. saved.number < count)
        → IsSearched goes all (drop i all) start o
        → option_map (λ saved. saved.number) o ≡ least_from start (are_ready goes all count)
    by None few s =
        sym (none_first start (drop start (are_ready goes all count))
        (λ k below. ready_at goes all count start k (start + k) refl (many_left goes all count start k below)
        ∙ not_there None s (start + k) (omega arith) tt))
    by (Some saved) few s =
        let from : start ≤ saved.number = s.chosen.0 in
        let is : find (is_of goes saved.number) all ≡ Some saved = s.chosen.1 in
        let far : ℕ = saved.number - start in
        let sum : start + far ≡ saved.number = omega (arith, from) in
        let left = length-drop start (are_ready goes all count) in
        let whole = length-map-range_with_len (λ (n : ℕ). is_some (find (is_of goes n) all)) 0 count in
        sym (some_first start far saved.number (drop start (are_ready goes all count))
        (omega (arith, left, whole, few, from, sum)) sum
        (ready_at goes all count start far saved.number sum few ∙ ap (λ (f : Option SavedProcessView). is_some f) is)
        (λ k below. ready_at goes all count start k (start + k) refl (omega (arith, below, few, sum))
        ∙ not_there (Some saved) s (start + k) (omega arith) (omega (arith, below, sum))))
