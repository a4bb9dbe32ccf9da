-- Items are those that were taken or those that were held.
use Rattle.std.proofs.Common.{◌≡◌, ◌⊎◌, inl, inr, ℕ, ◌≤◌, ℤ, List, length, max, take, arith, sym}
use Rattle.std.proofs.lemmas.Bool.{cases_lt}
use Rattle.std.proofs.lemmas.List.{take_all}

pub none_ahead : (items : List ℤ) (count held : ℕ) → length items ≤ max count held
    → (items ≡ take count items) ⊎ (items ≡ take held items)
none_ahead items count held few = elim (cases_lt count held) [
  | inl less ↦ inr (sym (take_all held items (omega (arith, less, few))))
  | inr more ↦ inl (sym (take_all count items (omega (arith, more, few))))
]
