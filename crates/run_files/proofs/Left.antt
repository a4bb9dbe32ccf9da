-- What is left of what was made.
use Rattle.std.proofs.Common.{◌≡◌, ◌∙◌, append_assoc, ◌⊎◌, inl, inr, ◌+◌, ◌<◌, add-one, get_or, slice_get, take, Result, ◌==◌, ℕ, zero, suc, true, List, [], ◌∷◌, ◌++◌, Some, Ok, Err, refl, sym, subst, arith, length, map, codes, string_bytes}
use Rattle.std.proofs.lemmas.Bool.{eq-eqb}
use Rattle.std.proofs.lemmas.Option.{slice_get_read}
use Rattle.std.specs.Prelude.{IfErr, IfOk, OnOk}
use Rattle.std.specs.declared.alloc.Global.{Global}
use Rattle.std.specs.declared.string.String.{String}
use Rattle.host.specs.Answers.{Answer}
use Rattle.host.specs.Requests.{Request, Renamed}
use Rattle.run_files.specs.Leftovers.{AreGone, IsFirst, IsIn, IsLeft, IsNamed, LeavesNothing, Stays, Trace, left_by, trace_of}
use Rattle.run_files.specs.Rules.{Given, GoesOn}
use Rattle.run_files.specs.Wanted.{Wanted}
use Rattle.run_files.specs.Opening.{path_in, paths_in}
use Rattle.run_files.specs.Places.{ends_or_slash, is_within}
use Rattle.run_files.proofs.Going.{some_is}

same_byte : (a : ℕ) → (a == a) ≡ true
same_byte a = eq-eqb a a refl

-- a folder's own place is in it, and so is that of what stands in it
pub within_own : (folder tail : List ℕ) → ends_or_slash tail ≡ true → is_within folder (folder ++ tail) ≡ true
within_own [] tail slash = slash
within_own (a ∷ folder) tail slash =
    let same = same_byte a in let rest = within_own folder tail slash in grind (arith, same, rest)

pub within_self : (folder : List ℕ) → is_within folder folder ≡ true
within_self [] = refl
within_self (a ∷ folder) = let same = same_byte a in let rest = within_self folder in grind (arith, same, rest)

-- what got another name is gone, and so is what stood in it
pub renamed_gone : (answer : Answer) (from to : List ℕ) (old new : List Request) → new ≡ Renamed from to answer ∷ old
    → OnOk answer (AreGone (IsIn from) new)
renamed_gone (Err fault) from to old new is = tt
renamed_gone (Ok done) from to old new is = λ path within left.
    let P : List Request → Type 0 = λ e. IsLeft path e in
    let apart = (subst P is left).0 in absurd (cc)

named_in : (from path : List ℕ) → IsNamed (Some from) path → IsIn from path
named_in from path is = let P : List ℕ → Type 0 = λ p. is_within from p ≡ true in subst P (sym is) (within_self from)

pub renamed_gone_self : (answer : Answer) (from to : List ℕ) (old new : List Request) → new ≡ Renamed from to answer ∷ old
    → OnOk answer (AreGone (IsNamed (Some from)) new)
renamed_gone_self (Err fault) from to old new is = tt
renamed_gone_self (Ok done) from to old new is = λ path named left.
    let within : is_within from path ≡ true = named_in from path named in
    let P : List Request → Type 0 = λ e. IsLeft path e in
    let apart = (subst P is left).0 in absurd (cc)

-- what is so in any case is so of a fault
pub in_fault : {T F : Type 0} (result : Result T F) (P : F → Type 0) → ((fault : F) → P fault) → IfErr result P
in_fault (Ok value) P all = tt
in_fault (Err fault) P all = all fault

-- what is so of an answer, or of a fault, in other words
pub ok_as : {T F : Type 0} (result : Result T F) (P Q : T → Type 0) → ((value : T) → P value → Q value) → IfOk result P → IfOk result Q
ok_as (Ok value) P Q more is = more value is
ok_as (Err fault) P Q more is = tt

pub err_as : {T F : Type 0} (result : Result T F) (P Q : F → Type 0) → ((fault : F) → P fault → Q fault) → IfErr result P → IfErr result Q
err_as (Ok value) P Q more is = tt
err_as (Err fault) P Q more is = more fault is

-- one more of the first ones of these paths
first_more : (count : ℕ) (paths : List (String Global)) (path : String Global) → slice_get paths count ≡ Some path
    → (p : List ℕ) → IsFirst count paths p ⊎ (p ≡ string_bytes path) → IsFirst (suc count) paths p
first_more zero [] path there p is = absurd (cc)
first_more zero (other ∷ paths) path there p (inl none) = absurd none
first_more zero (other ∷ paths) path there p (inr is) =
    let Q : String Global → Type 0 = λ one. p ≡ string_bytes one in inl (subst Q (sym (some_is other path there)) is)
first_more (suc count) [] path there p is = absurd (cc)
first_more (suc count) (other ∷ paths) path there p (inl (inl is)) = inl is
first_more (suc count) (other ∷ paths) path there p (inl (inr is)) = inr (first_more count paths path there p (inl is))
first_more (suc count) (other ∷ paths) path there p (inr is) = inr (first_more count paths path there p (inr is))

first_less : (count : ℕ) (paths : List (String Global)) (path : String Global) → slice_get paths count ≡ Some path
    → (p : List ℕ) → IsFirst (suc count) paths p → IsFirst count paths p ⊎ (p ≡ string_bytes path)
first_less zero [] path there p is = absurd is
first_less zero (other ∷ paths) path there p (inl is) =
    let Q : String Global → Type 0 = λ one. p ≡ string_bytes one in inr (subst Q (some_is other path there) is)
first_less zero (other ∷ paths) path there p (inr none) = absurd none
first_less (suc count) [] path there p is = absurd is
first_less (suc count) (other ∷ paths) path there p (inl is) = inl (inl is)
first_less (suc count) (other ∷ paths) path there p (inr is) =
    elim (first_less count paths path there p is) [ inl before ↦ inl (inr before) | inr now ↦ inr now ]

there_is : (count index : ℕ) (paths : List (String Global)) (path : String Global) → count ≡ index → path ≡ get_or paths index path
    → index < length paths → slice_get paths count ≡ Some path
there_is count index paths path same there within =
    let R : ℕ → Type 0 = λ n. slice_get paths n ≡ Some path in
    subst R (sym same) (slice_get_read paths (length paths) index path refl within there)

-- the same in a loop over them
pub first_next : (count index : ℕ) (paths : List (String Global)) (path : String Global) → count ≡ index → path ≡ get_or paths index path
    → index < length paths → (p : List ℕ) → IsFirst count paths p ⊎ IsNamed (Some (string_bytes path)) p → IsFirst (count + 1) paths p
first_next count index paths path same there within p is =
    let Q : ℕ → Type 0 = λ n. IsFirst n paths p in
    subst Q (sym (add-one count)) (first_more count paths path (there_is count index paths path same there within) p is)

pub first_before : (count index : ℕ) (paths : List (String Global)) (path : String Global) → count ≡ index → path ≡ get_or paths index path
    → index < length paths → (p : List ℕ) → IsFirst (count + 1) paths p → IsFirst count paths p ⊎ IsNamed (Some (string_bytes path)) p
first_before count index paths path same there within p is =
    let Q : ℕ → Type 0 = λ n. IsFirst n paths p in
    first_less count paths path (there_is count index paths path same there within) p (subst Q (add-one count) is)

-- nothing is left of one more
pub gone_next : (count index : ℕ) (paths : List (String Global)) (path : String Global) (e : List Request) → count ≡ index
    → path ≡ get_or paths index path → index < length paths → AreGone (IsFirst count paths) e
    → AreGone (IsNamed (Some (string_bytes path))) e → AreGone (IsFirst (count + 1) paths) e
gone_next count index paths path e same there within before now = λ p is left.
    elim (first_before count index paths path same there within p is) [ inl first ↦ before p first left | inr one ↦ now p one left ]

-- the first ones are those of the beginning of so many
pub first_taken : (count : ℕ) (paths : List (String Global)) (p : List ℕ) → IsFirst count paths p → IsFirst count (take count paths) p
first_taken zero paths p is = is
first_taken (suc count) [] p is = is
first_taken (suc count) (path ∷ paths) p (inl is) = inl is
first_taken (suc count) (path ∷ paths) p (inr is) = inr (first_taken count paths p is)

-- this path is one of these
abbrev IsOneOf : List (List ℕ) → List ℕ → Type 0
IsOneOf [] p = ⊥
IsOneOf (path ∷ paths) p = (p ≡ path) ⊎ IsOneOf paths p

one_of_first : (count : ℕ) (paths : List (String Global)) (p : List ℕ) → IsFirst count paths p
    → IsOneOf (map (λ (path : String Global). string_bytes path) paths) p
one_of_first zero paths p is = absurd is
one_of_first (suc count) [] p is = absurd is
one_of_first (suc count) (path ∷ paths) p (inl is) = inl is
one_of_first (suc count) (path ∷ paths) p (inr is) = inr (one_of_first count paths p is)

in_as : (folder tail path : List ℕ) → ends_or_slash tail ≡ true → path ≡ folder ++ tail → IsIn folder path
in_as folder tail path slash is =
    let P : List ℕ → Type 0 = λ p. is_within folder p ≡ true in subst P (sym is) (within_own folder tail slash)

outputs_in : (folder : List ℕ) (outputs : List (List ℕ)) (p : List ℕ) → IsOneOf (map (path_in folder) outputs) p → IsIn folder p
outputs_in folder [] p is = absurd is
outputs_in folder (output ∷ outputs) p (inl is) = in_as folder (codes "/" ++ output) p refl (is ∙ append_assoc folder (codes "/") output)
outputs_in folder (output ∷ outputs) p (inr is) = outputs_in folder outputs p is

paths_are_in : (folder : List ℕ) (outputs : List (List ℕ)) (p : List ℕ) → IsOneOf (paths_in folder outputs) p → IsIn folder p
paths_are_in folder outputs p (inl is) = in_as folder (codes "/net") p refl is
paths_are_in folder outputs p (inr (inl is)) = in_as folder (codes "/inputs") p refl is
paths_are_in folder outputs p (inr (inr is)) = outputs_in folder outputs p is

-- the files that were made in a folder stand in it
pub files_in : (folder : List ℕ) (outputs : List (List ℕ)) (count : ℕ) (paths : List (String Global))
    → map (λ (path : String Global). string_bytes path) paths ≡ paths_in folder outputs
    → (p : List ℕ) → IsFirst count paths p → IsIn folder p
files_in folder outputs count paths are p is =
    let P : List (List ℕ) → Type 0 = λ all. IsOneOf all p in
    paths_are_in folder outputs p (subst P are (one_of_first count paths p is))

pub self_in : (folder p : List ℕ) → IsNamed (Some folder) p → IsIn folder p
self_in folder p is = named_in folder p is

-- a request that makes nothing, takes nothing away and renames nothing leaves what was left
pub left_by_one : (r : Request) (old new : List Request) → new ≡ r ∷ old → trace_of r ≡ Stays → LeavesNothing old new
left_by_one r old new is stays path left =
    let P : List Request → Type 0 = λ e. IsLeft path e in
    let Q : Trace → Type 0 = λ trace. left_by path trace (IsLeft path old) in
    subst Q stays (subst P is left)

module _ (accepts : Given → Type 0) (o : Wanted) where
  pub left_by_goes : (old new : List Request) → GoesOn accepts o old new → LeavesNothing old new
  left_by_goes old new goes path left = elim (goes.left path left) [ inl before ↦ before | inr none ↦ absurd none ]
