-- Units counted, and processes within their limits.
use Rattle.std.proofs.Common.{◌≡◌, ◌∙◌, sym, subst, ℕ, ◌<◌, ◌≤◌, List, length, get_or, map, slice_get, Some, Bool}
use Rattle.std.proofs.Common.{false, IsTrue, inl, inr}
use Rattle.std.proofs.lemmas.Bool.{false≢true, cases_lt}
use Rattle.net_text.specs.Trees.{ProcessTree, process_tree}
use Rattle.net_text.specs.declared.tree.ProcessText.{ProcessText}
use Rattle.net_check.specs.declared.fault.NetFault.{NetFault}
use Rattle.net_check.specs.Ready.{FaultOfProcess, FaultOfProcesses, IsFit}
use Rattle.net_check.proofs.Places.{got_at, got_map, same_got}
use Rattle.kahn_net.specs.declared.limits.TheConstants.{MAX_UNITS}

pub past_units : (r : Bool) (n : ℕ) → (n ≤ MAX_UNITS → IsTrue r) → r ≡ false → MAX_UNITS < n
past_units r n few bad = elim (cases_lt MAX_UNITS n) [ inl h ↦ h | inr h ↦ absurd (false≢true (sym bad ∙ few h)) ]

pub fault_among : (ps : List ProcessText) (i : ℕ) (p : ProcessText) (f : NetFault) → i < length ps → p ≡ get_or ps i p
    → FaultOfProcess (process_tree p) f → FaultOfProcesses (map process_tree ps) f
fault_among ps i p f lt e h text same =
    h text i
    (subst (λ (xs : List ProcessTree). slice_get xs i ≡ Some (process_tree p)) (sym same)
    (got_map process_tree ps i p (got_at ps i p lt e)))

pub fit_at : (ps : List ProcessText) (i : ℕ) (p : ProcessText) → i < length ps → p ≡ get_or ps i p
    → IsFit (process_tree p) → (process : ProcessTree) → slice_get (map process_tree ps) i ≡ Some process
    → IsFit process
fit_at ps i p lt e fit process h =
    subst IsFit
    (same_got (map process_tree ps) i (process_tree p) process (got_map process_tree ps i p (got_at ps i p lt e)) h) fit
