-- Laws of lists whose elements have, in order, those numbers that pass a test.
use Rattle.std.proofs.Common.{◌≡◌, ◌≢◌, ◌⊎◌, inl, inr, ℕ, zero, suc, ◌+◌, ◌<◌, ◌≤◌, Bool, true, false, eqb, cond, List}
use Rattle.std.proofs.Common.{[], ◌∷◌, length, map, Some, refl, sym, ap, ◌∙◌, arith}
use Rattle.std.specs.Prelude.{slice_get, find, IsTrue}
use Rattle.std.proofs.lemmas.Bool.{eq-eqb, ne_eqb}
use Rattle.protocol.specs.Node.Common.{numbers_where}

-- an element's number passes the test, and is one of those that were gone through
pub where_mark : {A : Type 0} (f : A → ℕ) (test : ℕ → Bool) (first count : ℕ) (xs : List A) (k : ℕ) (x : A)
    → map f xs ≡ numbers_where test first count → slice_get xs k ≡ Some x
    → IsTrue (test (f x)) × (first ≤ f x) × (f x < first + count)
where_mark f test first zero [] k x h is = absurd (cc)
where_mark f test first zero (y ∷ xs) k x h is = absurd (cc)
where_mark {A} f test first (suc count) xs k x h is =
    at (test first) refl xs k h is (λ ys j e there. where_mark f test (suc first) count ys j x e there)
  where
    later : (ys : List A) → IsTrue (test (f x)) × (suc first ≤ f x) × (f x < suc first + count)
        → IsTrue (test (f x)) × (first ≤ f x) × (f x < first + suc count)
    later ys found = (found.0, omega (arith, found.1), omega (arith, found.2))

    at : (b : Bool) → test first ≡ b → (ys : List A) (k : ℕ)
        → map f ys ≡ cond b (first ∷ numbers_where test (suc first) count) (numbers_where test (suc first) count)
        → slice_get ys k ≡ Some x
        → ((zs : List A) (j : ℕ) → map f zs ≡ numbers_where test (suc first) count → slice_get zs j ≡ Some x
        → IsTrue (test (f x)) × (suc first ≤ f x) × (f x < suc first + count))
        → IsTrue (test (f x)) × (first ≤ f x) × (f x < first + suc count)
    at false passes ys k h is further = later ys (further ys k h is)
    at true passes [] k h is further = absurd (cc)
    at true passes (y ∷ ys) zero h is further =
        let here : f y ≡ first = cc in
        let same : y ≡ x = cc in
        let number : f x ≡ first = ap f (sym same) ∙ here in
        (ap test number ∙ passes, omega (arith, number), omega (arith, number))
    at true passes (y ∷ ys) (suc k) h is further =
        (let rest : map f ys ≡ numbers_where test (suc first) count = cc in later ys (further ys k rest is))

-- each number of them that passes is there
pub where_there : {A : Type 0} (f : A → ℕ) (test : ℕ → Bool) (first count n : ℕ) (xs : List A)
    → map f xs ≡ numbers_where test first count → IsTrue (test n) → first ≤ n → n < first + count
    → (k : ℕ) × (x : A) × (slice_get xs k ≡ Some x) × (f x ≡ n)
where_there f test first zero n xs h passes from below = absurd (omega (arith, from, below))
where_there {A} f test first (suc count) n xs h passes from below =
    at (test first) refl xs h
    (λ ys e gone. where_there f test (suc first) count n ys e passes gone (omega (arith, below)))
  where
    apart : (b : Bool) → test first ≡ b → b ≡ false → first ≢ n
    apart b is fails e = (let bad : true ≡ false = sym passes ∙ (ap test (sym e) ∙ (is ∙ fails)) in absurd (cc))

    at : (b : Bool) → test first ≡ b → (ys : List A)
        → map f ys ≡ cond b (first ∷ numbers_where test (suc first) count) (numbers_where test (suc first) count)
        → ((zs : List A) → map f zs ≡ numbers_where test (suc first) count → suc first ≤ n
        → (k : ℕ) × (x : A) × (slice_get zs k ≡ Some x) × (f x ≡ n))
        → (k : ℕ) × (x : A) × (slice_get ys k ≡ Some x) × (f x ≡ n)
    at false is ys h further = further ys h (let other = apart false is refl in omega (arith, from, other))
    at true is [] h further = absurd (cc)
    at true is (y ∷ ys) h further = by_number (cases first n from)
      where
        cases : (a b : ℕ) → a ≤ b → (a ≡ b) ⊎ (suc a ≤ b)
        cases zero zero le = inl refl
        cases zero (suc b) le = inr (omega arith)
        cases (suc a) zero le = absurd (omega (arith, le))
        cases (suc a) (suc b) le = more (cases a b (omega (arith, le)))
          where
            more : (a ≡ b) ⊎ (suc a ≤ b) → (suc a ≡ suc b) ⊎ (suc (suc a) ≤ suc b)
            more (inl e) = inl (ap suc e)
            more (inr l) = inr (omega (arith, l))

        by_number : (first ≡ n) ⊎ (suc first ≤ n) → (k : ℕ) × (x : A) × (slice_get (y ∷ ys) k ≡ Some x) × (f x ≡ n)
        by_number (inl here) = (0, y, refl, (let number : f y ≡ first = cc in number ∙ here))
        by_number (inr gone) =
            let rest : map f ys ≡ numbers_where test (suc first) count = cc in
            let found = further ys rest gone in
            (suc found.0, found.1, found.2, found.3)

-- and is found by its number, since none stands twice
pub where_find : {A : Type 0} (f : A → ℕ) (test : ℕ → Bool) (first count : ℕ) (xs : List A) (k : ℕ) (x : A)
    → map f xs ≡ numbers_where test first count → slice_get xs k ≡ Some x
    → find (λ (z : A). eqb (f z) (f x)) xs ≡ Some x
where_find f test first zero [] k x h is = absurd (cc)
where_find f test first zero (y ∷ xs) k x h is = absurd (cc)
where_find {A} f test first (suc count) xs k x h is =
    at (test first) xs k h is (λ ys j e there. where_find f test (suc first) count ys j x e there)
  where
    at : (b : Bool) → (ys : List A) (k : ℕ)
        → map f ys ≡ cond b (first ∷ numbers_where test (suc first) count) (numbers_where test (suc first) count)
        → slice_get ys k ≡ Some x
        → ((zs : List A) (j : ℕ) → map f zs ≡ numbers_where test (suc first) count → slice_get zs j ≡ Some x
        → find (λ (z : A). eqb (f z) (f x)) zs ≡ Some x)
        → find (λ (z : A). eqb (f z) (f x)) ys ≡ Some x
    at false ys k h is further = further ys k h is
    at true [] k h is further = absurd (cc)
    at true (y ∷ ys) zero h is further =
        let same : y ≡ x = cc in
        ap (λ (b : Bool). cond b (Some y) (find (λ (z : A). eqb (f z) (f x)) ys)) (eq-eqb (f y) (f x) (ap f same)) ∙ is
    at true (y ∷ ys) (suc k) h is further =
        let here : f y ≡ first = cc in
        let rest : map f ys ≡ numbers_where test (suc first) count = cc in
        let mark = where_mark f test (suc first) count ys k x rest is in
        let apart : f y ≢ f x = (λ e. omega (arith, here, mark.1, e)) in
        ap (λ (b : Bool). cond b (Some y) (find (λ (z : A). eqb (f z) (f x)) ys)) (ne_eqb (f y) (f x) apart)
        ∙ further ys k rest is

-- no two elements have the same number
abbrev pub StandOnce : {A : Type 0} → (A → ℕ) → List A → Type 0
StandOnce {A} f xs = (j k : ℕ) (x y : A) → slice_get xs j ≡ Some x → slice_get xs k ≡ Some y → f x ≡ f y → j ≡ k

pub where_once : {A : Type 0} (f : A → ℕ) (test : ℕ → Bool) (first count : ℕ) (xs : List A)
    → map f xs ≡ numbers_where test first count → StandOnce f xs
where_once f test first zero [] h j k x y is there same = absurd (cc)
where_once f test first zero (z ∷ xs) h j k x y is there same = absurd (cc)
where_once {A} f test first (suc count) xs h j k x y is there same =
    at (test first) xs h j k is there (λ ys e. where_once f test (suc first) count ys e)
  where
    at : (b : Bool) → (ys : List A)
        → map f ys ≡ cond b (first ∷ numbers_where test (suc first) count) (numbers_where test (suc first) count)
        → (j k : ℕ) → slice_get ys j ≡ Some x → slice_get ys k ≡ Some y
        → ((zs : List A) → map f zs ≡ numbers_where test (suc first) count → StandOnce f zs) → j ≡ k
    at false ys h j k is there further = further ys h j k x y is there same
    at true [] h j k is there further = absurd (cc)
    at true (z ∷ ys) h zero zero is there further = refl
    at true (z ∷ ys) h zero (suc k) is there further =
        let rest : map f ys ≡ numbers_where test (suc first) count = cc in
        let here : f z ≡ first = cc in
        let it : z ≡ x = cc in
        let mark = where_mark f test (suc first) count ys k y rest there in
        absurd (omega (arith, here, ap f it, same, mark.1))
    at true (z ∷ ys) h (suc j) zero is there further =
        let rest : map f ys ≡ numbers_where test (suc first) count = cc in
        let here : f z ≡ first = cc in
        let it : z ≡ y = cc in
        let mark = where_mark f test (suc first) count ys j x rest is in
        absurd (omega (arith, here, ap f it, same, mark.1))
    at true (z ∷ ys) h (suc j) (suc k) is there further =
        (let rest : map f ys ≡ numbers_where test (suc first) count = cc in
        ap suc (further ys rest j k x y is there same))

-- no more of them than were gone through
pub where_count : {A : Type 0} (f : A → ℕ) (test : ℕ → Bool) (first count : ℕ) (xs : List A)
    → map f xs ≡ numbers_where test first count → length xs ≤ count
where_count f test first zero [] h = omega arith
where_count f test first zero (x ∷ xs) h = absurd (cc)
where_count {A} f test first (suc count) xs h = at (test first) xs h (λ ys e. where_count f test (suc first) count ys e)
  where
    at : (b : Bool) → (ys : List A)
        → map f ys ≡ cond b (first ∷ numbers_where test (suc first) count) (numbers_where test (suc first) count)
        → ((zs : List A) → map f zs ≡ numbers_where test (suc first) count → length zs ≤ count) → length ys ≤ suc count
    at false ys h further = let few = further ys h in omega (arith, few)
    at true [] h further = omega arith
    at true (y ∷ ys) h further =
        (let rest : map f ys ≡ numbers_where test (suc first) count = cc in let few = further ys rest in
        omega (arith, few))
