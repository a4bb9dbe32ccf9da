-- The first part of a text, up to its first line feed.
use Rattle.std.proofs.Common.{◌≡◌, ℕ, ◌<◌, ◌≤◌, ◌+◌, ◌-◌, ◌==◌, true, false, List, [], ◌∷◌, ◌++◌, length, take, drop, get_or}
use Rattle.std.proofs.Common.{ap, arith, sym, ◌∙◌, subst, add-one, drop-cons}
use Rattle.std.specs.List.{slice_split, All}
use Rattle.std.proofs.lemmas.Bool.{false_from_ne_true}
use Rattle.std.proofs.lemmas.List.{take-append-drop, get_or-take, length-take-le, length-drop}
use Rattle.std.proofs.lemmas.List.{take_all, get_or_default}
use Rattle.std.proofs.lemmas.List.Splits.{slice_split_none, slice_split_at}

-- no line feed stands before this place
no_feed : (text : List ℕ) (at : ℕ) → at ≤ length text
    → ((k : ℕ) → k < at → (get_or text k 0 == 10) ≡ true → ⊥) → All (λ b. (b == 10) ≡ false) (take at text)
no_feed text at within none k d less =
    subst (λ b. (b == 10) ≡ false)
    (sym (get_or-take at text k d near ∙ get_or_default text k d 0 (omega (arith, near, within))))
    (false_from_ne_true (get_or text k 0 == 10) (none k near))
  where
    near : k < at
    near = subst (λ n. k < n) (length-take-le at text within) less

-- the first part ends at the first line feed
pub part_ends : (text : List ℕ) (at : ℕ) → at < length text
    → ((k : ℕ) → k < at → (get_or text k 0 == 10) ≡ true → ⊥) → (get_or text at 0 == 10) ≡ true
    → slice_split (λ b. b == 10) text
    ≡ take at text ∷ slice_split (λ b. b == 10) (take (length text - (at + 1)) (drop (at + 1) text))
part_ends text at within none here =
    ap (slice_split (λ b. b == 10)) (sym parts)
    ∙ slice_split_at (λ b. b == 10) (take at text) (get_or text at 0) (drop (at + 1) text)
    (no_feed text at (omega (arith, within)) none) here
    ∙ ap (λ rest. take at text ∷ slice_split (λ b. b == 10) rest)
    (sym (take_all (length text - (at + 1)) (drop (at + 1) text) (rw (length-drop (at + 1) text) (omega arith))))
  where
    parts : take at text ++ get_or text at 0 ∷ drop (at + 1) text ≡ text
    parts =
        ap (λ rest. take at text ++ rest)
        (ap (λ k. get_or text at 0 ∷ drop k text) (add-one at) ∙ sym (drop-cons text at 0 within))
        ∙ take-append-drop at text

-- without one the text is the one part
pub one_part : (text : List ℕ) → ((k : ℕ) → k < length text → (get_or text k 0 == 10) ≡ true → ⊥)
    → slice_split (λ b. b == 10) text ≡ text ∷ []
one_part text none =
    slice_split_none (λ b. b == 10) text
    (subst (All (λ b. (b == 10) ≡ false)) (take_all (length text) text (omega arith))
    (no_feed text (length text) (omega arith) none))
