-- Laws of valid networks: what each process and each channel of one keeps to.
use Rattle.std.proofs.Common.{◌≡◌, sym, ap, refl, ℕ, zero, suc, ◌+◌, ◌<◌, ◌≤◌, List, [], ◌∷◌, length, get_or, map}
use Rattle.std.proofs.Common.{slice_get, Some, None, arith}
use Rattle.kahn_net.specs.declared.program.Process.{Process as ProcessCode}
use Rattle.kahn_net.specs.Syntax.{Code, Network, code_of}
use Rattle.kahn_net.specs.Valid.{IsValid, block_units, body_units}
use Rattle.kahn_net.specs.declared.limits.TheConstants.{MAX_UNITS}

-- the same as code reads it
pub code_at : (ps : List ProcessCode) (i : ℕ) (p : ProcessCode) → i < length ps → p ≡ get_or ps i p
    → slice_get (map code_of ps) i ≡ Some (code_of p)
code_at [] i p lt e = absurd (omega arith)
code_at (q ∷ ps) zero p lt e = ap (λ (x : ProcessCode). Some (code_of x)) (sym e)
code_at (q ∷ ps) (suc i) p lt e = code_at ps i p (omega arith) e

pub code_past : (ps : List ProcessCode) (i : ℕ) → length ps ≤ i → slice_get (map code_of ps) i ≡ None
code_past [] i h = refl
code_past (q ∷ ps) zero h = absurd (omega arith)
code_past (q ∷ ps) (suc i) h = code_past ps i (omega arith)

-- a process of a valid network has few units, and stands on a node below 16
pub units_few : (net : Network) (i : ℕ) (code : Code) → IsValid net → slice_get net.codes i ≡ Some code
    → block_units code.prelude + body_units code.body ≤ MAX_UNITS
units_few net i code v here = (v.codes i code here).units
