-- What code does: one instruction, and so many of them.
use Rattle.std.specs.Prelude.{◌≡◌, ℕ, zero, suc, ◌+◌, ◌-◌, ◌≤◌, ◌==◌, nat_lt, ℤ, pos, List, [], ◌∷◌, ◌++◌, Option}
use Rattle.std.specs.Prelude.{Some, None, cond, slice_get, slice_index_or, slice_set}
use Rattle.std.specs.Int.{int_wrapping_neg, w64}
use Rattle.std.specs.Ordering.{int_eq}
use Rattle.kahn_net.specs.Common.{history_of, Sent, Ended, Stopped, Trace, no_steps, on_get, point_at}
use Rattle.kahn_net.specs.Statements.{after_step, apply}
use Rattle.proc_code.specs.declared.instruction.Instruction.{Instruction}
use Rattle.proc_code.specs.declared.instruction.Instruction.TheVariants.{Store, Negate, Apply, Get, Put}
use Rattle.proc_code.specs.declared.instruction.Instruction.TheVariants.{Jump, JumpIfZero, Repeat, Again, Stop}
use Rattle.proc_code.specs.declared.instruction.Instruction.TheVariants.{End}
use Rattle.proc_code.specs.declared.instruction.Destination.{Destination}
use Rattle.proc_code.specs.declared.instruction.Destination.TheVariants.{Stack, Variable as Into}
use Rattle.proc_code.specs.declared.instruction.Operand.{Operand}
use Rattle.proc_code.specs.declared.instruction.Operand.TheVariants.{Top, Variable, Literal}

-- The trace of a machine from a state on: the place of its next instruction, its stack of values (the topmost first),
-- the passes that remain of each repetition round the place (the outermost first), its variables, and what is unread of
-- each channel.
abbrev pub Continuation : Type 0
Continuation = ℕ → List ℤ → List ℕ → List ℤ → List (List ℤ) → Trace

-- the topmost value; an empty stack has 0 there
abbrev pub top : List ℤ → ℤ
top [] = pos 0
top (value ∷ stack) = value

-- the values under it
abbrev pub below : List ℤ → List ℤ
below [] = []
below (value ∷ stack) = stack

-- an operand's value, on this stack and with these variables
abbrev pub value_in : Operand → List ℤ → List ℤ → ℤ
value_in Top stack vars = top stack
value_in (Variable x) stack vars = slice_index_or vars x (pos 0)
value_in (Literal n) stack vars = n

-- the stack once it was taken
abbrev pub behind_value : Operand → List ℤ → List ℤ
behind_value Top stack = below stack
behind_value (Variable x) stack = stack
behind_value (Literal n) stack = stack

-- the stack and the variables once a value went there
abbrev pub stack_with : Destination → ℤ → List ℤ → List ℤ
stack_with Stack x stack = x ∷ stack
stack_with (Into y) x stack = stack

abbrev pub vars_with : Destination → ℤ → List ℤ → List ℤ
vars_with Stack x vars = vars
vars_with (Into y) x vars = slice_set vars y x

-- the passes that remain of the innermost repetition; where there is none, none
abbrev pub innermost : List ℕ → ℕ
innermost [] = 0
innermost (k ∷ []) = k
innermost (k ∷ j ∷ deeper) = innermost (j ∷ deeper)

-- those of the repetitions round it
abbrev pub round_it : List ℕ → List ℕ
round_it [] = []
round_it (k ∷ []) = []
round_it (k ∷ j ∷ deeper) = k ∷ round_it (j ∷ deeper)

-- The trace from a state on whose next instruction is this, where `go` says the trace from the state behind it. Past
-- the last instruction the process has ended.
abbrev pub perform : Option Instruction → Continuation → Continuation
perform None go place stack left vars unread = no_steps (Ended vars unread)
perform (Some (Store x value)) go place stack left vars unread =
    go (place + 1) (behind_value value stack) left (slice_set vars x (value_in value stack vars)) unread
perform (Some (Negate value to)) go place stack left vars unread =
    let x = int_wrapping_neg w64 (value_in value stack vars) in
    go (place + 1) (stack_with to x (behind_value value stack)) left (vars_with to x vars) unread
perform (Some (Apply operator first second to)) go place stack left vars unread =
    let x = apply operator (value_in first (behind_value second stack) vars) (value_in second stack vars) in
    go (place + 1) (stack_with to x (behind_value first (behind_value second stack))) left (vars_with to x vars) unread
perform (Some (Get x channel site)) go place stack left vars unread =
    on_get (history_of unread channel) (point_at site left) channel vars
    (λ item later. go (place + 1) stack left (slice_set vars x item) (slice_set unread channel later))
perform (Some (Put channel site value)) go place stack left vars unread =
    after_step (record { point = point_at site left; vars = vars; act = Sent channel (value_in value stack vars) })
    (go (place + 1) (behind_value value stack) left vars unread)
perform (Some (Jump target)) go place stack left vars unread = go target stack left vars unread
perform (Some (JumpIfZero target value)) go place stack left vars unread =
    cond (int_eq (value_in value stack vars) (pos 0)) (go target (behind_value value stack) left vars unread)
    (go (place + 1) (behind_value value stack) left vars unread)
perform (Some (Repeat times behind)) go place stack left vars unread =
    cond (times == 0) (go behind stack left vars unread) (go (place + 1) stack (left ++ times ∷ []) vars unread)
perform (Some (Again target)) go place stack left vars unread =
    cond (nat_lt 1 (innermost left)) (go target stack (round_it left ++ (innermost left - 1) ∷ []) vars unread)
    (go (place + 1) stack (round_it left) vars unread)
perform (Some Stop) go place stack left vars unread = no_steps (Stopped vars)
perform (Some End) go place stack left vars unread = no_steps (Ended vars unread)

-- the instruction at the place, and then what follows
abbrev pub step : List Instruction → Continuation → Continuation
step code go place = perform (slice_get code place) go place

-- so many instructions, and then what follows
abbrev pub run : List Instruction → ℕ → Continuation → Continuation
run code zero go = go
run code (suc n) go = step code (run code n go)

-- From this state on the code comes to this, in at most so many instructions, whatever follows them. A trace in which
-- `go` doesn't occur is one at whose end the machine is within these instructions.
pub record Runs (code : List Instruction) (most : ℕ) (place : ℕ) (stack : List ℤ) (left : List ℕ) (vars : List ℤ)
    (unread : List (List ℤ)) (what : Continuation → Trace) : Type 0 where
  pub steps : ℕ
  pub within : steps ≤ most
  pub gives : (go : Continuation) → run code steps go place stack left vars unread ≡ what go
