-- What instructions do to the machine of a turn.
use Rattle.std.specs.Prelude.{◌≡◌, ◌+◌, ℕ, ℤ, List, Option, Some, None, length}
use Rattle.kahn_net.specs.Common.{Step, Trace, put_by, left_by}
use Rattle.kahn_net.specs.Statements.{after_step}
use Rattle.proc_code.specs.declared.instruction.Instruction.{Instruction}
use Rattle.proc_code.specs.Machine.{Continuation, perform, Runs}
use Rattle.proc_step.specs.Turns.{CanBeMade}
use Rattle.proc_step.specs.Parts.{Part}
use Rattle.proc_step.specs.declared.machine.Flow.{Flow}
use Rattle.proc_step.specs.declared.machine.Machine.{Machine}
use Rattle.proc_step.specs.declared.machine.Next.{Next}
use Rattle.proc_step.specs.declared.machine.Next.TheVariants.{Behind, To, Stop}

-- the trace from where a machine is
abbrev pub trace_at : Continuation → Machine → Trace
trace_at go m = go m.place m.stack m.left.items m.variables.items m.unread.items

-- in at most so many instructions the code makes this trace from there
abbrev pub RunsTo : List Instruction → ℕ → Machine → Trace → Type 0
RunsTo code most m t =
    Runs code most m.place m.stack m.left.items m.variables.items m.unread.items (λ _. t)

-- The machine went on: by no act, so that nothing was taken and nothing sent, or by one that could be made.
pub data Moved (i : Instruction) (room : List ℕ) (m m' : Machine) : Type 0 where
  Quietly : ((go : Continuation) → trace_at (perform (Some i) go) m ≡ trace_at go m')
      → m'.unread.items ≡ m.unread.items → m'.sent.items ≡ m.sent.items → Moved i room m m'
  Acting : (step : Step) → ((go : Continuation) → trace_at (perform (Some i) go) m ≡ after_step step (trace_at go m'))
      → CanBeMade step.act room m.unread.items m.sent.items → m'.unread.items ≡ left_by step.act m.unread.items
      → m'.sent.items ≡ put_by step.act m.sent.items → Moved i room m m'

-- a machine at this place with these values, whatever it says of them itself
abbrev pub held : Machine → ℕ → List ℤ → Machine
held m place stack = record m { place = place; stack = stack }

-- what an instruction did: the machine went on, or the process stopped before its next act
abbrev pub Stepped : Instruction → List ℕ → Machine → Option Flow → Machine → Type 0
Stepped i room m None m' = Moved i room m m'
Stepped i room m (Some flow) m' =
    (go : Continuation) → Part (trace_at (perform (Some i) go) m) room m.unread.items m.sent.items flow m'

-- the same by what follows it, where the machine doesn't say so itself
abbrev pub Performed : Instruction → List ℕ → Machine → Next → Machine → Type 0
Performed i room m Behind m' = Stepped i room m None (record m' { place = m.place + 1 })
Performed i room m (To target) m' = Stepped i room m None (record m' { place = target })
Performed i room m (Stop flow) m' = Stepped i room m (Some flow) m'

-- What remains of a turn: in at most so many instructions the code makes a trace from here, and whatever part of it is
-- made, a part of the whole was made.
pub record Remains (code : List Instruction) (most : ℕ) (room : List ℕ) (m : Machine) (whole : Trace)
    (u0 sent0 : List (List ℤ)) : Type 0 where
  pub trace : Trace
  pub runs : RunsTo code most m trace
  pub leads : (flow : Flow) (m' : Machine) → Part trace room m.unread.items m.sent.items flow m'
      → Part whole room u0 sent0 flow m'

-- the rest remains, or the process has stopped
abbrev pub Leaves : List Instruction → ℕ → List ℕ → Option Flow → Machine → Trace → List (List ℤ) → List (List ℤ)
    → Type 0
Leaves code more room None m whole u0 sent0 = Remains code more room m whole u0 sent0
Leaves code more room (Some flow) m whole u0 sent0 = Part whole room u0 sent0 flow m

-- So many instructions were carried out, and the rest remains; or the process stopped before. Of whatever whole.
pub record WentOn (code : List Instruction) (done : ℕ) (room : List ℕ) (m : Machine) (stop : Option Flow) (m' : Machine)
    : Type 0 where
  pub rooms : length m'.sent.items ≡ length m.sent.items
  pub went : (whole : Trace) (u0 sent0 : List (List ℤ)) (more : ℕ) → Remains code (done + more) room m whole u0 sent0
      → Leaves code more room stop m' whole u0 sent0
