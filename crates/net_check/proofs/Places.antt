-- Places of lists, and the names that stand there.
use Rattle.std.proofs.Common.{◌≡◌, ℕ, zero, suc, ◌<◌, List, [], ◌∷◌, ◌++◌, length, get_or, map, Option, Some, None}
use Rattle.std.proofs.Common.{refl, sym, ap, ◌∙◌, arith, slice_get, set, ◌⊎◌, inl, inr, true, false, is_some}
use Rattle.std.proofs.Common.{MatchOption}
use Rattle.std.proofs.lemmas.Bool.{false≢true, cases_lt}
use Rattle.std.proofs.lemmas.Option.{slice_get_within}
use Rattle.net_text.specs.Names.{NameTree}
use Rattle.net_check.specs.Resolution.{Reads, process_names}
use Rattle.net_text.specs.Trees.{ProcessTree, process_tree}
use Rattle.net_text.specs.declared.tree.ProcessText.{ProcessText}

pub got_at : {A : Type 0} (xs : List A) (i : ℕ) (x : A) → i < length xs → x ≡ get_or xs i x → slice_get xs i ≡ Some x
got_at [] i x lt e = absurd (omega arith)
got_at (y ∷ ys) zero x lt e = ap Some (sym e)
got_at (y ∷ ys) (suc i) x lt e = got_at ys i x (omega arith) e

pub reads_from : {A : Type 0} (f : A → NameTree) (xs : List A) (i : ℕ) (x : A) → slice_get xs i ≡ Some x
    → Reads (map f xs) i (f x).text
reads_from f [] i x e = absurd (cc)
reads_from f (y ∷ ys) zero x e =
    ap (λ (z : Option _). elim z as (λ _. Option (List ℕ)) [ None ↦ None | Some w ↦ Some (f w).text ]) e
reads_from f (y ∷ ys) (suc i) x e = reads_from f ys i x e

pub reads_at : {A : Type 0} (f : A → NameTree) (xs : List A) (i : ℕ) (x : A) (t : List ℕ) → i < length xs
    → x ≡ get_or xs i x → (f x).text ≡ t → Reads (map f xs) i t
reads_at f xs i x t lt e same = reads_from f xs i x (got_at xs i x lt e) ∙ ap Some same

-- which element a name is read from
pub read_of : {A : Type 0} (f : A → NameTree) (xs : List A) (i : ℕ) (t : List ℕ) → Reads (map f xs) i t
    → (x : A) × (slice_get xs i ≡ Some x) × ((f x).text ≡ t)
read_of f [] i t e = absurd (cc)
read_of f (y ∷ ys) zero t e = (y, refl, cc)
read_of f (y ∷ ys) (suc i) t e = read_of f ys i t e

pub reads_within : {A : Type 0} (f : A → NameTree) (xs : List A) (i : ℕ) (t : List ℕ) → Reads (map f xs) i t
    → i < length xs
reads_within f xs i t e = let r = read_of f xs i t e in slice_get_within xs i r.0 r.1

pub same_got : {A : Type 0} (xs : List A) (i : ℕ) (x y : A) → slice_get xs i ≡ Some x → slice_get xs i ≡ Some y → x ≡ y
same_got xs i x y e h = let k : Some x ≡ Some y = sym e ∙ h in cc

-- what reads otherwise at a place isn't read there
pub reads_apart : {A : Type 0} (f : A → NameTree) (xs : List A) (i : ℕ) (x : A) (t : List ℕ) → i < length xs
    → x ≡ get_or xs i x → ((f x).text ≡ t → ⊥) → Reads (map f xs) i t → ⊥
reads_apart f xs i x t lt e other h = let r = read_of f xs i t h in
    other (ap (λ (z : _). (f z).text) (same_got xs i x r.0 (got_at xs i x lt e) r.1) ∙ r.2)

-- a list with one element more at its end
pub got_push_cases : {A : Type 0} (xs : List A) (x : A) (i : ℕ) (y : A) → slice_get (xs ++ x ∷ []) i ≡ Some y
    → (slice_get xs i ≡ Some y) ⊎ ((i ≡ length xs) × (x ≡ y))
got_push_cases [] x zero y e = inr (refl, cc)
got_push_cases [] x (suc i) y e = absurd (cc)
got_push_cases (z ∷ zs) x zero y e = inl e
got_push_cases (z ∷ zs) x (suc i) y e =
    elim (got_push_cases zs x i y e) [ inl h ↦ inl h | inr h ↦ inr (omega (arith, h.0), h.1) ]

pub got_append_left : {A : Type 0} (xs ys : List A) (i : ℕ) (y : A) → slice_get xs i ≡ Some y
    → slice_get (xs ++ ys) i ≡ Some y
got_append_left [] ys i y e = absurd (cc)
got_append_left (z ∷ zs) ys zero y e = e
got_append_left (z ∷ zs) ys (suc i) y e = got_append_left zs ys i y e

pub got_seam : {A : Type 0} (xs : List A) (x : A) (ys : List A) → slice_get (xs ++ x ∷ ys) (length xs) ≡ Some x
got_seam [] x ys = refl
got_seam (z ∷ zs) x ys = got_seam zs x ys

pub got_map : {A B : Type 0} (f : A → B) (xs : List A) (i : ℕ) (x : A) → slice_get xs i ≡ Some x
    → slice_get (map f xs) i ≡ Some (f x)
got_map f [] i x e = absurd (cc)
got_map f (y ∷ ys) zero x e = let k : y ≡ x = cc in ap (λ (z : _). Some (f z)) k
got_map f (y ∷ ys) (suc i) x e = got_map f ys i x e

pub map_got : {A B : Type 0} (f : A → B) (xs : List A) (i : ℕ) (y : B) → slice_get (map f xs) i ≡ Some y
    → (x : A) × (slice_get xs i ≡ Some x) × (f x ≡ y)
map_got f [] i y e = absurd (cc)
map_got f (z ∷ zs) zero y e = (z, refl, cc)
map_got f (z ∷ zs) (suc i) y e = map_got f zs i y e

-- processes, seen without their pointers
pub process_reads_at : (ps : List ProcessText) (i : ℕ) (p : ProcessText) (t : List ℕ) → i < length ps
    → p ≡ get_or ps i p → p.name.text ≡ t → Reads (process_names (map process_tree ps)) i t
process_reads_at ps i p t lt e same =
    reads_from (λ (x : ProcessTree). x.name) (map process_tree ps) i (process_tree p)
    (got_map process_tree ps i p (got_at ps i p lt e)) ∙ ap Some same

pub process_reads_apart : (ps : List ProcessText) (i : ℕ) (p : ProcessText) (t : List ℕ) → i < length ps
    → p ≡ get_or ps i p → (p.name.text ≡ t → ⊥) → Reads (process_names (map process_tree ps)) i t → ⊥
process_reads_apart ps i p t lt e other h =
    let r = read_of (λ (x : ProcessTree). x.name) (map process_tree ps) i t h in
    let q : process_tree p ≡ r.0 =
    same_got (map process_tree ps) i (process_tree p) r.0 (got_map process_tree ps i p (got_at ps i p lt e)) r.1 in
    other (ap (λ (z : ProcessTree). z.name.text) q ∙ r.2)

pub process_reads_within : (ps : List ProcessText) (i : ℕ) (t : List ℕ)
    → Reads (process_names (map process_tree ps)) i t → i < length ps
process_reads_within ps i t h =
    let r = read_of (λ (x : ProcessTree). x.name) (map process_tree ps) i t h in
    let s = map_got process_tree ps i r.0 r.1 in
    slice_get_within ps i s.0 s.1

pub when_some : {X : Type 0} (r : Option X) (P : Type 0) (Q : X → Type 0) → MatchOption r P Q → is_some r ≡ true
    → (x : X) × Q x
when_some None P Q m e = absurd (false≢true e)
when_some (Some x) P Q m e = (x, m)

pub when_none : {X : Type 0} (r : Option X) (P : Type 0) (Q : X → Type 0) → MatchOption r P Q → is_some r ≡ false → P
when_none None P Q m e = m
when_none (Some x) P Q m e = absurd (false≢true (sym e))

-- names themselves
pub name_read_of : (names : List NameTree) (i : ℕ) (t : List ℕ) → Reads names i t
    → (n : NameTree) × (slice_get names i ≡ Some n) × (n.text ≡ t)
name_read_of [] i t e = absurd (cc)
name_read_of (n ∷ names) zero t e = (n, refl, cc)
name_read_of (n ∷ names) (suc i) t e = name_read_of names i t e

pub name_reads_from : (names : List NameTree) (i : ℕ) (n : NameTree) → slice_get names i ≡ Some n → Reads names i n.text
name_reads_from [] i n e = absurd (cc)
name_reads_from (m ∷ names) zero n e = let k : m ≡ n = cc in ap (λ (x : NameTree). Some x.text) k
name_reads_from (m ∷ names) (suc i) n e = name_reads_from names i n e

pub name_reads_at : (names : List NameTree) (i : ℕ) (n : NameTree) (t : List ℕ) → i < length names
    → n ≡ get_or names i n → n.text ≡ t → Reads names i t
name_reads_at names i n t lt e same = name_reads_from names i n (got_at names i n lt e) ∙ ap Some same

pub name_reads_apart : (names : List NameTree) (i : ℕ) (n : NameTree) (t : List ℕ) → i < length names
    → n ≡ get_or names i n → (n.text ≡ t → ⊥) → Reads names i t → ⊥
name_reads_apart names i n t lt e other h = let r = name_read_of names i t h in
    other (ap (λ (z : NameTree). z.text) (same_got names i n r.0 (got_at names i n lt e) r.1) ∙ r.2)

pub name_reads_within : (names : List NameTree) (i : ℕ) (t : List ℕ) → Reads names i t → i < length names
name_reads_within names i t h = let r = name_read_of names i t h in slice_get_within names i r.0 r.1

pub length-set_at : {A : Type 0} (xs : List A) (i : ℕ) (x : A) → length (set xs i x) ≡ length xs
length-set_at [] i x = refl
length-set_at (y ∷ ys) zero x = refl
length-set_at (y ∷ ys) (suc i) x = ap suc (length-set_at ys i x)

pub got_set_here : {A : Type 0} (xs : List A) (i : ℕ) (x : A) → i < length xs → slice_get (set xs i x) i ≡ Some x
got_set_here [] i x lt = absurd (omega arith)
got_set_here (y ∷ ys) zero x lt = refl
got_set_here (y ∷ ys) (suc i) x lt = got_set_here ys i x (omega arith)

pub got_set_there : {A : Type 0} (xs : List A) (i j : ℕ) (x : A) → (i ≡ j → ⊥)
    → slice_get (set xs i x) j ≡ slice_get xs j
got_set_there [] i j x other = refl
got_set_there (y ∷ ys) zero zero x other = absurd (other refl)
got_set_there (y ∷ ys) zero (suc j) x other = refl
got_set_there (y ∷ ys) (suc i) zero x other = refl
got_set_there (y ∷ ys) (suc i) (suc j) x other = got_set_there ys i j x (λ e. other (ap suc e))

pub same_or_not : (i j : ℕ) → (i ≡ j) ⊎ (i ≡ j → ⊥)
same_or_not i j =
    elim (cases_lt i j) [
      | inl h ↦ inr (λ e. omega arith)
      | inr h ↦ elim (cases_lt j i)
          [ inl k ↦ inr (λ e. omega arith) | inr k ↦ inl (omega arith) ]
    ]
