-- Lists of decisions, one more at a time.
use Rattle.std.proofs.Common.{◌≡◌, ℕ, suc, ◌+◌, ◌<◌, Bool, true, false, cond, List, [], ◌∷◌, ◌++◌, length, take}
use Rattle.std.proofs.Common.{get_or, refl, sym, ap, ◌∙◌, arith}
use Rattle.std.specs.Prelude.{nat_lt, sum_by}
use Rattle.std.proofs.Math.Seq.{take-suc}
use Rattle.std.proofs.lemmas.Grind.{flat_map-append}
use Rattle.std.proofs.lemmas.List.{append-nil}
use Rattle.std.proofs.lemmas.List.Concat.{flat_map-cons}
use Rattle.std.proofs.lemmas.List.Elements.{filter-append}
use Rattle.ckpt_codec.specs.Common.{DecisionView, confirmed, decided_below, decided_by, decision_by}
use Rattle.record.specs.Common.{confirmed_one}
use Rattle.ckpt_codec.specs.Lengths.{decision_length, decisions_length}
use Rattle.std.proofs.lemmas.List.Sums.{sum_by-append}
use Rattle.ckpt_store.specs.Decided.{below_one}

-- one element more
more : {X : Type 0} (xs : List X) (i : ℕ) (x : X) → i < length xs → x ≡ get_or xs i x
    → take (i + 1) xs ≡ take i xs ++ x ∷ []
more {X} xs i x within is =
    let next : i + 1 ≡ suc i = omega arith in
    ap (λ (n : ℕ). take n xs) next ∙ (take-suc xs i x within ∙ ap (λ (y : X). take i xs ++ y ∷ []) (sym is))

one_below : (number : ℕ) (d : DecisionView) → decided_below number (d ∷ []) ≡ below_one number d
one_below number d = at (nat_lt d.number number)
  where
    at : (b : Bool) → cond b (d ∷ []) [] ≡ cond b (d ∷ []) []
    at true = refl
    at false = refl

pub below_more : (number : ℕ) (ds : List DecisionView) (i : ℕ) (d : DecisionView) (all grown copy : List DecisionView)
    → i < length ds → d ≡ get_or ds i d → all ≡ decided_below number (take i ds) → copy ≡ below_one number d
    → grown ≡ all ++ copy → grown ≡ decided_below number (take (i + 1) ds)
below_more number ds i d all grown copy within is before one then_is =
    then_is
    ∙ (ap (λ (xs : List DecisionView). xs ++ copy) before
    ∙ (ap (λ (xs : List DecisionView). decided_below number (take i ds) ++ xs) (one ∙ sym (one_below number d))
    ∙ (sym (filter-append (λ (e : DecisionView). nat_lt e.number number) (take i ds) (d ∷ []))
    ∙ ap (decided_below number) (sym (more ds i d within is)))))

pub confirmed_more : (number node : ℕ) (ds : List DecisionView) (i : ℕ) (d : DecisionView)
    (left grown one : List DecisionView) → i < length ds → d ≡ get_or ds i d
    → left ≡ confirmed number node (take i ds) → one ≡ confirmed_one number node d → grown ≡ left ++ one
    → grown ≡ confirmed number node (take (i + 1) ds)
confirmed_more number node ds i d left grown one within is before found then_is =
    then_is
    ∙ (ap (λ (xs : List DecisionView). xs ++ one) before
    ∙ (ap (λ (xs : List DecisionView). confirmed number node (take i ds) ++ xs)
    (found ∙ sym (flat_map-cons (confirmed_one number node) d [] ∙ append-nil (confirmed_one number node d)))
    ∙ (sym (flat_map-append (confirmed_one number node) (take i ds) (d ∷ []))
    ∙ ap (confirmed number node) (sym (more ds i d within is)))))

-- how many bytes the decisions take with one more
pub bytes_decided : (number : ℕ) (nodes : List ℕ) (ds : List DecisionView) → 0 < length nodes
    → 1 + sum_by decision_length (decided_below number ds) + sum_by decision_length (decision_by number nodes)
    ≡ decisions_length (decided_by number nodes ds)
bytes_decided number [] ds some = absurd (omega (arith, some))
bytes_decided number (p ∷ ps) ds some =
    let sum = sum_by-append decision_length (decided_below number ds) (decision_by number (p ∷ ps)) in
    omega (arith, sum)
