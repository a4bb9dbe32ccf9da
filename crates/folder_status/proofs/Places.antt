-- What holds of two lists place by place, as far as a loop has come; and limits, one after another.
use Rattle.std.proofs.Common.{◌≡◌, inl, inr, ℕ, zero, suc, ◌+◌, ◌<◌, ◌≤◌, List, [], ◌∷◌, ◌++◌, drop, length, Some, refl, sym, ap, ◌∙◌, subst, arith, append_assoc}
use Rattle.std.specs.Prelude.{slice_get}
use Rattle.std.proofs.lemmas.Bool.{cases_lt}
use Rattle.std.proofs.lemmas.Option.{slice_get_within}
use Rattle.kahn_net.specs.declared.program.Channel.{Channel}
use Rattle.folder_status.specs.Endings.{limit_of, limits_from}
use Rattle.folder_status.specs.declared.kept.KeptOutput.{KeptOutput}

-- what holds at the places before and at the next one
pub one_more : {A B : Type 0} (P : A → B → Type 0) (xs : List A) (ys : List B) (i : ℕ) (x : A) (y : B) → slice_get xs i ≡ Some x
    → slice_get ys i ≡ Some y → P x y
    → ((place : ℕ) (a : A) (b : B) → place < i → slice_get xs place ≡ Some a → slice_get ys place ≡ Some b → P a b)
    → (place : ℕ) (a : A) (b : B) → place < i + 1 → slice_get xs place ≡ Some a → slice_get ys place ≡ Some b → P a b
one_more {A} {B} P xs ys i x y x_is y_is holds before place a b within here there = elim (cases_lt place i) [
  | inl less ↦ before place a b less here there
  | inr more ↦
      let same : place ≡ i = omega (arith, within, more) in
      let x_here : slice_get xs place ≡ Some x = subst (λ (j : ℕ). slice_get xs j ≡ Some x) (sym same) x_is in
      let y_here : slice_get ys place ≡ Some y = subst (λ (j : ℕ). slice_get ys j ≡ Some y) (sym same) y_is in
      let first : x ≡ a = cc in
      let second : y ≡ b = cc in
      subst (λ (c : A). P c b) first (subst (P x) second holds)
]

-- and at all places, once the loop is over
pub at_all : {A B : Type 0} (P : A → B → Type 0) (xs : List A) (ys : List B) (i : ℕ) → length xs ≤ i
    → ((place : ℕ) (a : A) (b : B) → place < i → slice_get xs place ≡ Some a → slice_get ys place ≡ Some b → P a b)
    → (place : ℕ) (a : A) (b : B) → slice_get xs place ≡ Some a → slice_get ys place ≡ Some b → P a b
at_all P xs ys i over before place a b here there =
    let within = slice_get_within xs place a here in before place a b (omega (arith, within, over)) here there

-- the next limit, and those behind it
limits_next : (kept : List KeptOutput) (inner more number i : ℕ) (channels : List Channel) → i < length channels
    → limits_from kept inner more number (drop i channels)
    ≡ limit_of kept inner more number ∷ limits_from kept inner more (suc number) (drop (suc i) channels)
limits_next kept inner more number i [] less = absurd (omega (arith, less))
limits_next kept inner more number zero (x ∷ channels) less = refl
limits_next kept inner more number (suc i) (x ∷ channels) less = limits_next kept inner more number i channels (omega (arith, less))

pub one_limit_more : (kept : List KeptOutput) (inner more number : ℕ) (channels : List Channel) (limits pushed all : List ℕ)
    → number < length channels → pushed ≡ limits ++ limit_of kept inner more number ∷ []
    → limits ++ limits_from kept inner more number (drop number channels) ≡ all
    → pushed ++ limits_from kept inner more (number + 1) (drop (number + 1) channels) ≡ all
one_limit_more kept inner more number channels limits pushed all less push before =
    let next : number + 1 ≡ suc number = omega arith in
    let behind = limits_next kept inner more number number channels less in
    rw (push, next) (append_assoc limits (limit_of kept inner more number ∷ []) (limits_from kept inner more (suc number) (drop (suc number) channels))
    ∙ (ap (λ (l : List ℕ). limits ++ l) (sym behind) ∙ before))
