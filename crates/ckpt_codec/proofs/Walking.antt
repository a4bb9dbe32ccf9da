-- Lists that are put behind bytes element by element.
use Rattle.std.proofs.Common.{◌≡◌, ℕ, zero, suc, ◌+◌, ◌-◌, ◌<◌, List, [], ◌∷◌, ◌++◌, length, take, get_or}
use Rattle.std.proofs.Common.{slice_get, Option, Some, refl, sym, ap, subst, ◌∙◌, append_assoc, arith}
use Rattle.std.specs.Prelude.{All}
use Rattle.std.specs.Option.{option_to_list}
use Rattle.std.specs.List.{flat_map, AllByRecursion}
use Rattle.std.proofs.lemmas.List.{append-nil}
use Rattle.std.proofs.lemmas.List.Elements.{All-from_recursion, recursion_from_All}
use Rattle.std.proofs.lemmas.List.Concat.{flat_map-cons}
use Rattle.std.proofs.lemmas.Option.{slice_get_read, slice_get-get_or}

flat-append : {X : Type 0} (f : X → List ℕ) (xs ys : List X) → flat_map f (xs ++ ys) ≡ flat_map f xs ++ flat_map f ys
flat-append f [] ys = refl
flat-append f (x ∷ xs) ys =
    flat_map-cons f x (xs ++ ys) ∙ (ap (λ (t : List ℕ). f x ++ t) (flat-append f xs ys)
    ∙ (sym (append_assoc (f x) (flat_map f xs) (flat_map f ys))
    ∙ ap (λ (t : List ℕ). t ++ flat_map f ys) (sym (flat_map-cons f x xs))))

all_behind : {X : Type 0} (P : X → Type 0) (xs ys : List X) → AllByRecursion P xs → AllByRecursion P ys
    → AllByRecursion P (xs ++ ys)
all_behind P [] ys one two = two
all_behind P (x ∷ xs) ys one two = (one.0, all_behind P xs ys one.1 two)

-- one more than so many
take_suc : {X : Type 0} (xs : List X) (i : ℕ) → take (suc i) xs ≡ take i xs ++ option_to_list (slice_get xs i)
take_suc [] zero = refl
take_suc [] (suc i) = refl
take_suc (x ∷ xs) zero = refl
take_suc {X = X} (x ∷ xs) (suc i) = ap (λ (ys : List X). x ∷ ys) (take_suc xs i)

take_next : {X : Type 0} (xs : List X) (i j : ℕ) → j ≡ suc i → take j xs ≡ take i xs ++ option_to_list (slice_get xs i)
take_next {X = X} xs i j e = ap (λ (k : ℕ). take k xs) e ∙ take_suc xs i

pub put_next : {X : Type 0} (f : X → List ℕ) (xs : List X) (i j : ℕ) (old out grown : List ℕ) (next : Option X)
    → j ≡ suc i → next ≡ slice_get xs i
    → out ≡ old ++ flat_map f (take i xs) → grown ≡ out ++ flat_map f (option_to_list next)
    → grown ≡ old ++ flat_map f (take j xs)
put_next {X = X} f xs i j old out grown next e is so_far more =
    more
    ∙ (ap (λ (t : List ℕ). t ++ flat_map f (option_to_list next)) so_far
    ∙ (append_assoc old (flat_map f (take i xs)) (flat_map f (option_to_list next))
    ∙ ap (λ (t : List ℕ). old ++ t)
    (sym (flat-append f (take i xs) (option_to_list next))
    ∙ ap (λ (ys : List X). flat_map f ys)
    (ap (λ (o : Option X). take i xs ++ option_to_list o) is ∙ sym (take_next xs i j e)))))

pub all_next : {X : Type 0} (P : X → Type 0) (xs : List X) (i j : ℕ) (next : Option X) → j ≡ suc i
    → next ≡ slice_get xs i → All P (take i xs) → All P (option_to_list next) → All P (take j xs)
all_next {X = X} P xs i j next e is so_far more =
    subst (λ (ys : List X). All P ys)
    (ap (λ (o : Option X). take i xs ++ option_to_list o) is ∙ sym (take_next xs i j e))
    (All-from_recursion P (take i xs ++ option_to_list next)
    (all_behind P (take i xs) (option_to_list next) (recursion_from_All P (take i xs) so_far)
    (recursion_from_All P (option_to_list next) more)))

-- the same for one that is there
pub put_more : {X : Type 0} (f : X → List ℕ) (xs : List X) (i : ℕ) (old out grown : List ℕ) (x : X) → i < length xs
    → x ≡ get_or xs i x
    → out ≡ old ++ flat_map f (take i xs) → grown ≡ out ++ f x → grown ≡ old ++ flat_map f (take (i + 1) xs)
put_more f xs i old out grown x lt is so_far more =
    put_next f xs i (i + 1) old out grown (Some x) (omega arith) (sym (slice_get_read xs (length xs) i x refl lt is))
    so_far
    (more ∙ ap (λ (t : List ℕ). out ++ t) (sym (flat_map-cons f x [] ∙ append-nil (f x))))

pub all_more : {X : Type 0} (P : X → Type 0) (xs : List X) (i : ℕ) (x : X) → i < length xs → x ≡ get_or xs i x
    → All P (take i xs) → P x → All P (take (i + 1) xs)
all_more P xs i x lt is so_far more =
    all_next P xs i (i + 1) (Some x) (omega arith) (sym (slice_get_read xs (length xs) i x refl lt is)) so_far
    (All-from_recursion P (x ∷ []) (more, tt))

-- the same of the element at a place
pub all_at : {X : Type 0} (P : X → Type 0) (xs : List X) (i : ℕ) (d : X) → i < length xs → All P (take i xs)
    → P (get_or xs i d) → All P (take (i + 1) xs)
all_at P xs i d lt so_far more =
    all_next P xs i (i + 1) (Some (get_or xs i d)) (omega arith) (sym (slice_get-get_or xs i d lt)) so_far
    (All-from_recursion P (get_or xs i d ∷ []) (more, tt))
