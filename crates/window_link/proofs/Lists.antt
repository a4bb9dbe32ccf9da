-- Lists and choices, as the laws of a link need them.
use Rattle.std.proofs.Common.{◌≡◌, ℕ, zero, suc, Bool, true, false, ◌&&◌, cond, List, [], ◌∷◌, ◌++◌, length, Option}
use Rattle.std.proofs.Common.{Some, refl, ap, subst, arith}
use Rattle.std.specs.Prelude.{slice_get, Contains}
use Rattle.std.specs.List.{AllByRecursion}
use Rattle.std.proofs.lemmas.Option.{slice_get_within, get_or_from_slice_get}

-- what holds of either choice holds of the one that is made
pub by_cases : {A : Type 0} (P : A → Type 0) (b : Bool) (x y : A) → (b ≡ true → P x) → (b ≡ false → P y)
    → P (cond b x y)
by_cases P true x y on_true on_false = on_true refl
by_cases P false x y on_true on_false = on_false refl

pub and_both : (a b : Bool) → (a && b) ≡ true → (a ≡ true) × (b ≡ true)
and_both true b e = (refl, e)
and_both false b e = absurd cc

pub the_same : {A : Type 0} (x y : A) → (let one : Option A = Some x in let other : Option A = Some y in one ≡ other)
    → x ≡ y
the_same x y e = cc

-- what holds of each holds of the one at a place
pub at_place : {A : Type 0} (P : A → Type 0) (xs : List A) → AllByRecursion P xs → (k : ℕ) (x : A)
    → slice_get xs k ≡ Some x → P x
at_place P [] all k x e = absurd cc
at_place P (y ∷ ys) all zero x e = subst P (the_same y x e) all.0
at_place P (y ∷ ys) all (suc k) x e = at_place P ys all.1 k x e

pub each_weaker : {A : Type 0} (P Q : A → Type 0) → ((x : A) → P x → Q x) → (xs : List A) → AllByRecursion P xs
    → AllByRecursion Q xs
each_weaker P Q weaker [] all = tt
each_weaker P Q weaker (x ∷ xs) all = (weaker x all.0, each_weaker P Q weaker xs all.1)

-- what stands in the front of a list stands in the list
pub in_front : {A : Type 0} (xs ys : List A) (k : ℕ) (x : A) → slice_get xs k ≡ Some x → slice_get (xs ++ ys) k ≡ Some x
in_front [] ys k x e = absurd cc
in_front (y ∷ xs) ys zero x e = e
in_front (y ∷ xs) ys (suc k) x e = in_front xs ys k x e

-- what stands behind the front is the first of the rest
pub behind_front : {A : Type 0} (xs rest : List A) (x : A) → slice_get (xs ++ rest) (length xs) ≡ Some x
    → (more : List A) × (rest ≡ x ∷ more)
behind_front [] [] x e = absurd cc
behind_front [] (y ∷ more) x e = (more, ap (λ z. z ∷ more) (the_same y x e))
behind_front (y ∷ xs) rest x e = behind_front xs rest x e

-- the first of the rest stands behind the front
pub first_of_rest : {A : Type 0} (xs : List A) (x : A) (more : List A) → slice_get (xs ++ x ∷ more) (length xs) ≡ Some x
first_of_rest [] x more = refl
first_of_rest (y ∷ xs) x more = first_of_rest xs x more

-- what stands in a list with one more at its end: it stood there before, or is that one
pub in_longer : {A P : Type 0} (xs : List A) (last : A) (k : ℕ) (x : A) → slice_get (xs ++ last ∷ []) k ≡ Some x
    → (slice_get xs k ≡ Some x → P) → (k ≡ length xs → last ≡ x → P) → P
in_longer [] last zero x e before now = now refl (the_same last x e)
in_longer [] last (suc k) x e before now = absurd cc
in_longer (y ∷ xs) last zero x e before now = before e
in_longer (y ∷ xs) last (suc k) x e before now = in_longer xs last k x e before (λ place same. now (ap suc place) same)

pub contains_at : {A : Type 0} (xs : List A) (k : ℕ) (x : A) → slice_get xs k ≡ Some x → Contains xs x
contains_at xs k x e = (k, slice_get_within xs k x e, get_or_from_slice_get xs k x x e)

pub Contains-later : {A : Type 0} (y : A) (xs : List A) (x : A) → Contains xs x → Contains (y ∷ xs) x
Contains-later y xs x there = (suc there.0, (let lt = there.1 in omega arith), there.2)
