-- Laws of logs that let go of items.
use Rattle.std.proofs.Common.{◌≡◌, ◌⊎◌, inl, inr, ℕ, ◌+◌, ◌-◌, ◌≤◌, Bool, true, false, ltb, cond, ℤ, List, length, drop}
use Rattle.std.proofs.Common.{refl, sym, ap, subst, ◌∙◌, arith}
use Rattle.std.proofs.lemmas.Bool.{ltb-false, ltb-true}
use Rattle.std.proofs.lemmas.List.{length-drop, drop-drop}
use Rattle.protocol.specs.Node.Common.{LogState, IsLogOf, IsInLog, log_end, trimmed_log}
use Rattle.retained.specs.LogState.{trimmed}

-- a trimmed log is as it was, or begins at one of its positions or at its end
pub trimmed_cases : (position : ℕ) (log : LogState)
    → (trimmed_log position log ≡ log)
    ⊎ ((log.base ≤ position) × (position ≤ log_end log) × (trimmed_log position log ≡ trimmed log position))
trimmed_cases position log = at (ltb position log.base) (ltb (log_end log) position) refl refl
  where
    at : (b d : Bool) → ltb position log.base ≡ b → ltb (log_end log) position ≡ d
        → (cond b log (cond d log (trimmed log position)) ≡ log)
        ⊎ ((log.base ≤ position) × (position ≤ log_end log)
        × (cond b log (cond d log (trimmed log position)) ≡ trimmed log position))
    at true d h k = inl refl
    at false true h k = inl refl
    at false false h k = inr (ltb-false position log.base h, ltb-false (log_end log) position k, refl)

-- where the position is one of the log or its end, it begins there
pub trimmed_within : (position : ℕ) (log : LogState) → IsInLog log position
    → trimmed_log position log ≡ trimmed log position
trimmed_within position log within = at (ltb position log.base) (ltb (log_end log) position) refl refl
  where
    at : (b d : Bool) → ltb position log.base ≡ b → ltb (log_end log) position ≡ d
        → cond b log (cond d log (trimmed log position)) ≡ trimmed log position
    at true d h k =
        (let below = ltb-true position log.base h in let low = within.from_base in absurd (omega (arith, below, low)))
    at false true h k =
        (let above = ltb-true (log_end log) position k in let high = within.to_end in
        absurd (omega (arith, above, high)))
    at false false h k = refl

-- it ends where it ended, with no more items
pub trimmed_end_stays : (position : ℕ) (log : LogState)
    → (log_end (trimmed_log position log) ≡ log_end log)
    × (length ((trimmed_log position log).items) ≤ length log.items)
trimmed_end_stays position log = at (trimmed_cases position log)
  where
    at : ((trimmed_log position log ≡ log)
        ⊎ ((log.base ≤ position) × (position ≤ log_end log) × (trimmed_log position log ≡ trimmed log position)))
        → (log_end (trimmed_log position log) ≡ log_end log)
        × (length ((trimmed_log position log).items) ≤ length log.items)
    at (inl same) = (ap log_end same, omega (arith, ap (λ (l : LogState). length l.items) same))
    at (inr cut) =
        let left = length-drop (position - log.base) log.items in
        let end : log_end (trimmed log position) ≡ log_end log = omega (arith, left, cut.0, cut.1) in
        (ap log_end cut.2 ∙ end, omega (arith, left, ap (λ (l : LogState). length l.items) cut.2))

-- and is of the same history
pub trimmed_is_log_of : (position : ℕ) (log : LogState) (history : List ℤ) → IsLogOf log history
    → IsLogOf (trimmed_log position log) history
trimmed_is_log_of position log history is = at (trimmed_cases position log)
  where
    at : ((trimmed_log position log ≡ log)
        ⊎ ((log.base ≤ position) × (position ≤ log_end log) × (trimmed_log position log ≡ trimmed log position)))
        → IsLogOf (trimmed_log position log) history
    at (inl same) = subst (λ (l : LogState). IsLogOf l history) (sym same) is
    at (inr cut) =
        let left = length-drop (position - log.base) log.items in
        let sum : log.base + (position - log.base) ≡ position = omega (arith, cut.0) in
        subst (λ (l : LogState). IsLogOf l history) (sym cut.2)
        (record {
          count = omega (arith, left, cut.0, cut.1, is.count);
          items = ap (drop (position - log.base)) is.items
              ∙ (drop-drop (position - log.base) log.base history ∙ ap (λ (n : ℕ). drop n history) sum);
        })

-- where it begins is no later than the position, if it wasn't before
pub base_at : (position : ℕ) (log : LogState) → log.base ≤ position → (trimmed_log position log).base ≤ position
base_at position log h = at (trimmed_cases position log)
  where
    at : ((trimmed_log position log ≡ log)
        ⊎ ((log.base ≤ position) × (position ≤ log_end log) × (trimmed_log position log ≡ trimmed log position)))
        → (trimmed_log position log).base ≤ position
    at (inl same) = omega (arith, h, ap (λ (l : LogState). l.base) same)
    at (inr cut) = omega (arith, ap (λ (l : LogState). l.base) cut.2)

-- and where it begins is no earlier than before
pub base_after : (position : ℕ) (log : LogState) → log.base ≤ (trimmed_log position log).base
base_after position log = at (trimmed_cases position log)
  where
    at : ((trimmed_log position log ≡ log)
        ⊎ ((log.base ≤ position) × (position ≤ log_end log) × (trimmed_log position log ≡ trimmed log position)))
        → log.base ≤ (trimmed_log position log).base
    at (inl same) = omega (arith, ap (λ (l : LogState). l.base) same)
    at (inr cut) = omega (arith, cut.0, ap (λ (l : LogState). l.base) cut.2)

-- where the position is one of the log or its end, it is so of the trimmed one
pub in_trimmed : (position : ℕ) (log : LogState) → IsInLog log position → IsInLog (trimmed_log position log) position
in_trimmed position log is = at (trimmed_cases position log)
  where
    at : ((trimmed_log position log ≡ log)
        ⊎ ((log.base ≤ position) × (position ≤ log_end log) × (trimmed_log position log ≡ trimmed log position)))
        → IsInLog (trimmed_log position log) position
    at (inl same) = subst (λ (l : LogState). IsInLog l position) (sym same) is
    at (inr cut) =
        subst (λ (l : LogState). IsInLog l position) (sym cut.2)
        (record { from_base = omega arith; to_end = omega arith })
