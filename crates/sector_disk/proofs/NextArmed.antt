-- For which call the next fault is armed.
use Rattle.std.proofs.Common.{◌≡◌, ◌==◌, ◌&&◌, ◌||◌, ℕ, ◌+◌, ◌≤◌, ◌<◌, Bool, true, false, cond, List, [], ◌∷◌, ◌++◌, find, Option, Some, None}
use Rattle.std.proofs.Common.{refl, ap, ◌∙◌, arith}
use Rattle.std.specs.Prelude.{if◌then◌else◌, nat_le, nat_lt}
use Rattle.std.proofs.lemmas.Bool.{false≢true}
use Rattle.std.proofs.lemmas.Bool.Decides.{nat_tests}
use Rattle.sector_disk.specs.Schedule.{FaultState, fault_met, IsNoneBefore, next_count}
use Rattle.sector_disk.specs.declared.TheConstants.{GREATEST_COUNT}
use Rattle.sector_disk.specs.declared.disk.ArmedFault.{ArmedFault}

both_hold : (a b : Bool) → (a && b) ≡ true → (a ≡ true) × (b ≡ true)
both_hold true b h = (refl, h)
both_hold false b h = absurd (false≢true h)

both_so : (a b : Bool) → a ≡ true → b ≡ true → (a && b) ≡ true
both_so a b h k = ap (λ (x : Bool). x && b) h ∙ k

no_closer : (call next next' calls calls' : ℕ) → (nat_le call calls || nat_le next call) ≡ true → next' ≤ next → calls ≤ calls'
    → (nat_le call calls' || nat_le next' call) ≡ true
no_closer call next next' calls calls' h n c = grind (arith, nat_tests)

is_apart : (call next calls due : ℕ) → (nat_le call calls || nat_le next call) ≡ true → calls < due → due < next
    → (call == due) ≡ false
is_apart call next calls due h past before = grind (arith, nat_tests)

here : (call next calls : ℕ) → (calls < call → next ≤ call) → (nat_le call calls || nat_le next call) ≡ true
here call next calls h = grind (arith, nat_tests)

-- with an earlier call, or behind more calls
pub still_none : (armed : List ArmedFault) (next next' calls calls' : ℕ) → IsNoneBefore next calls armed → next' ≤ next
    → calls ≤ calls' → IsNoneBefore next' calls' armed
still_none [] next next' calls calls' h n c = refl
still_none (fault ∷ armed) next next' calls calls' h n c =
    let parts = both_hold (nat_le fault.call calls || nat_le next fault.call) _ h in
    both_so _ _ (no_closer fault.call next next' calls calls' parts.0 n c)
    (still_none armed next next' calls calls' parts.1 n c)

-- with one more fault
pub one_behind : (armed : List ArmedFault) (fault : ArmedFault) (next next' calls : ℕ) → IsNoneBefore next calls armed
    → next' ≤ next → (calls < fault.call → next' ≤ fault.call) → IsNoneBefore next' calls (armed ++ fault ∷ [])
one_behind [] fault next next' calls h n own = both_so _ true (here fault.call next' calls own) refl
one_behind (first ∷ armed) fault next next' calls h n own =
    let parts = both_hold (nat_le first.call calls || nat_le next first.call) _ h in
    both_so _ _ (no_closer first.call next next' calls calls parts.0 n (omega arith))
    (one_behind armed fault next next' calls parts.1 n own)

-- a call before the next one meets none
pub none_due : (armed : List ArmedFault) (next calls due : ℕ) → IsNoneBefore next calls armed → calls < due → due < next
    → find (λ (fault : ArmedFault). fault.call == due) armed ≡ None
none_due [] next calls due h past before = refl
none_due (fault ∷ armed) next calls due h past before =
    let parts = both_hold (nat_le fault.call calls || nat_le next fault.call) _ h in
    ap (λ (b : Bool). cond b (Some fault) (find (λ (f : ArmedFault). f.call == due) armed))
    (is_apart fault.call next calls due parts.0 past before)
    ∙ none_due armed next calls due parts.1 past before

-- nor does the next device call, where counts go on
pub none_met : (s : FaultState) (next : ℕ) → IsNoneBefore next s.calls s.armed → s.calls < GREATEST_COUNT
    → s.calls + 1 < next → fault_met s ≡ None
none_met s next h counts before =
    let due = next_count s.calls in
    let is : due ≡ s.calls + 1 = grind (arith, nat_tests) in
    let found = none_due s.armed next s.calls due h (omega (arith, is)) (omega (arith, is, before)) in
    ap (λ (o : Option ArmedFault). if nat_lt s.failures GREATEST_COUNT then o else None) found
    ∙ either (nat_lt s.failures GREATEST_COUNT)
  where
    either : (b : Bool) → ◌≡◌ {A = Option ArmedFault} (if b then None else None) None
    either true = refl
    either false = refl
