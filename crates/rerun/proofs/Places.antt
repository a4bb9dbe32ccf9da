-- What stands at a place of a list, and what of its image.
use Rattle.std.proofs.Common.{◌≡◌, ◌⊎◌, inl, inr, ℕ, ◌+◌, ◌<◌, ◌≤◌, false, List, length, map, get_or, Some, None, refl}
use Rattle.std.proofs.Common.{sym, ap, ◌∙◌}
use Rattle.std.proofs.Common.{arith}
use Rattle.std.specs.Prelude.{slice_get, option_map}
use Rattle.std.proofs.lemmas.Bool.{cases_lt}
use Rattle.std.proofs.lemmas.Option.{slice_get_cases, slice_get-map, slice_get_read}
use Rattle.std.proofs.lemmas.List.{length-map}
use Rattle.kahn_net.specs.NextActs.{next_of}
use Rattle.kahn_net.specs.Processes.{Standing}
use Rattle.kahn_net.specs.States.{standing_of}
use Rattle.kahn_net.specs.Syntax.{Code, code_of}
use Rattle.kahn_net.specs.declared.program.Process.{Process}
use Rattle.kahn_net.specs.declared.state.ProcState.{ProcState}
use Rattle.rerun.specs.Resting.{is_put}

-- within a list something stands
pub stands : {X : Type 0} (xs : List X) (k : ℕ) → k < length xs → (x : X) × (slice_get xs k ≡ Some x)
stands {X} xs k within = at (slice_get_cases xs k).1
  where
    at : ((x : X) × (k < length xs) × (slice_get xs k ≡ Some x) × (get_or xs k x ≡ x))
        ⊎ ((length xs ≤ k) × (slice_get xs k ≡ None)) → (x : X) × (slice_get xs k ≡ Some x)
    at (inl here) = (here.0, here.2)
    at (inr past) = absurd (omega (arith, past.0, within))

pub has_code : (processes : List Process) (p : ℕ) → p < length processes
    → (code : Code) × (slice_get (map code_of processes) p ≡ Some code)
has_code processes p within = stands (map code_of processes) p (omega (arith, length-map processes code_of, within))

-- where a process stands by its state
pub state_at : (states : List ProcState) (p : ℕ) (state : ProcState) → p < length states
    → state ≡ get_or states p state → slice_get (map standing_of states) p ≡ Some (standing_of state)
state_at states p state within read =
    let here : slice_get states p ≡ Some state = slice_get_read states (length states) p state refl within read in
    slice_get-map standing_of states p ∙ ap (option_map standing_of) here

pub standing_at : (states : List ProcState) (p : ℕ) (state : ProcState) (before : Standing) → p < length states
    → state ≡ get_or states p state → slice_get (map standing_of states) p ≡ Some before → standing_of state ≡ before
standing_at states p state before within read is = let there = state_at states p state within read in cc (there, is)

-- a process that isn't about to put, behind others that aren't
pub none_puts : (codes : List Code) (standings : List Standing) (k : ℕ) (here : Standing)
    → slice_get standings k ≡ Some here
    → ((code : Code) → slice_get codes k ≡ Some code → is_put (next_of code here) ≡ false)
    → ((p : ℕ) (code : Code) (standing : Standing) → p < k → slice_get codes p ≡ Some code
    → slice_get standings p ≡ Some standing → is_put (next_of code standing) ≡ false)
    → (p : ℕ) (code : Code) (standing : Standing) → p < k + 1 → slice_get codes p ≡ Some code
    → slice_get standings p ≡ Some standing → is_put (next_of code standing) ≡ false
none_puts codes standings k here here_is not before p code standing below code_is standing_is = at (cases_lt p k)
  where
    at : (p < k) ⊎ (k ≤ p) → is_put (next_of code standing) ≡ false
    at (inl less) = before p code standing less code_is standing_is
    at (inr more) =
        let same : p ≡ k = omega (arith, below, more) in
        let there = ap (slice_get standings) (sym same) ∙ standing_is in
        let one : standing ≡ here = cc (there, here_is) in
        ap (λ (s : Standing). is_put (next_of code s)) one ∙ not code (ap (slice_get codes) (sym same) ∙ code_is)
