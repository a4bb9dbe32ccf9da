-- A value NAME=FILE has one such form.
use Rattle.std.proofs.Common.{◌≡◌, ◌∙◌, ◌<◌, ◌==◌, ℕ, Bool, true, false, List, ◌∷◌, ◌++◌, get_or, ap, sym, arith}
use Rattle.std.proofs.lemmas.Bool.Decides.{nat_tests}
use Rattle.std.proofs.lemmas.List.Folds.{list_any_at}
use Rattle.std.specs.List.{before_first, after_first, list_any}
use Rattle.clap.proofs.CutLemmas.{Lacks, list_any-Lacks, list_any-at, before_first-at, after_first-at}
use Rattle.clap.specs.Words.{Text}
use Rattle.stream_words.specs.Asked.{IsSplit, IsWithoutForm}

lacks : (xs : List ℕ) → list_any (λ byte. byte == 61) xs ≡ false → Lacks 61 xs
lacks xs none i within at =
    let here : (get_or xs i 0 == 61) ≡ true = grind (arith, nat_tests) in
    let apart : true ≡ false = sym (list_any_at (λ byte. byte == 61) xs i 0 within here) ∙ none in absurd cc

-- a value without `=`
pub without : (value : Text) → Lacks 61 value → IsWithoutForm value
without value none name path is =
    let apart : true ≡ false =
    sym (list_any-at 61 name path) ∙ (ap (list_any (λ byte. byte == 61)) (sym is.whole) ∙ list_any-Lacks 61 value none) in
    absurd cc

-- what stands before the first `=`
pub same_name : (value name path x y : Text) → value ≡ x ++ 61 ∷ y → Lacks 61 x → IsSplit value name path → x ≡ name
same_name value name path x y whole none is =
    sym (before_first-at 61 x y none) ∙ (ap (before_first (λ byte. byte == 61)) (sym whole ∙ is.whole)
    ∙ before_first-at 61 name path (lacks name is.first))

-- and behind it
pub same_path : (value name path x y : Text) → value ≡ x ++ 61 ∷ y → Lacks 61 x → IsSplit value name path → y ≡ path
same_path value name path x y whole none is =
    sym (after_first-at 61 x y none) ∙ (ap (after_first (λ byte. byte == 61)) (sym whole ∙ is.whole)
    ∙ after_first-at 61 name path (lacks name is.first))

-- a test of a length
pub filled : (n : ℕ) (empty : Bool) → empty ≡ (n == 0) → empty ≡ false → 0 < n
filled n empty is none = grind (arith, nat_tests)

pub unfilled : (n : ℕ) (empty : Bool) → empty ≡ (n == 0) → empty ≡ true → n ≡ 0
unfilled n empty is none = grind (arith, nat_tests)
