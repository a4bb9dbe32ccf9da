-- What a process does on whole input histories, and the function that it is.
use Rattle.std.specs.Prelude.{◌≡◌, ℕ, zero, suc, ◌≤◌, ℤ, List, [], ◌∷◌, length, drop, Option, Some, None, if◌then◌else◌}
use Rattle.std.specs.Prelude.{◌==◌, IsTrue}
use Rattle.kahn_net.specs.Streams.{total}
use Rattle.kahn_net.specs.Syntax.{Block, Code}
use Rattle.kahn_net.specs.Valid.{is_passing}
use Rattle.kahn_net.specs.Statements.{Act, Got, Sent, Point, Step, End, Ended, Waits, Stopped, Trace, no_steps}
use Rattle.kahn_net.specs.Statements.{trace_of, then_do, sites_of}

-- a body again and again, at most so often
abbrev pub passes : ℕ → ℕ → Block → List ℤ → List (List ℤ) → Trace
passes zero site body vars unread = no_steps (Ended vars unread)
passes (suc n) site body vars unread = then_do (trace_of site [] body vars unread) (passes n site body)

-- The trace of a process's loop, if it has one: its body again and again until it waits or stops. Each whole pass of
-- a valid body takes an item, so that one pass more than there are items unread is always enough.
abbrev pub loop_trace : ℕ → Option Block → List ℤ → List (List ℤ) → Trace
loop_trace site None vars unread = no_steps (Ended vars unread)
loop_trace site (Some body) vars unread = passes (suc (total unread)) site body vars unread

-- the trace of a process on these input histories: its prelude, and then its loop
abbrev pub process_trace : Code → List (List ℤ) → Trace
process_trace code inputs =
    then_do (trace_of 0 [] code.prelude code.vars inputs) (loop_trace (sites_of code.prelude) code.body)

-- the item that an act puts on a channel, and those put later
abbrev pub sent_by : ℕ → Act → List ℤ → List ℤ
sent_by channel (Got c item) later = later
sent_by channel (Sent c item) later = if c == channel then item ∷ later else later

-- the items that acts put on a channel, in order
abbrev pub sent_on : ℕ → List Step → List ℤ
sent_on channel [] = []
sent_on channel (step ∷ steps) = sent_by channel step.act (sent_on channel steps)

-- the item that an act gets from a channel, and those got later
abbrev pub got_by : ℕ → Act → List ℤ → List ℤ
got_by channel (Got c item) later = if c == channel then item ∷ later else later
got_by channel (Sent c item) later = later

-- the items that acts get from a channel, in order
abbrev pub got_on : ℕ → List Step → List ℤ
got_on channel [] = []
got_on channel (step ∷ steps) = got_by channel step.act (got_on channel steps)

-- the function of a process: what it puts on a channel, from its input histories
abbrev pub output_of : Code → List (List ℤ) → ℕ → List ℤ
output_of code inputs channel = sent_on channel (process_trace code inputs).steps

-- the loop's body passes: each whole pass gets an item
abbrev pub HasPassingLoop : Code → Type 0
HasPassingLoop code = (body : Block) → code.body ≡ Some body → IsTrue (is_passing body)

-- where a process stands: before its first statement, before the get or put of a point, or finished
pub data Standing : Type 0 where
  NotBegun : (vars : List ℤ) → Standing
  At : (point : Point) (vars : List ℤ) → Standing
  Done : (vars : List ℤ) → Standing

-- where it stands before these steps, after which it ends so
abbrev pub standing_at : List Step → End → Standing
standing_at (step ∷ steps) end = At step.point step.vars
standing_at [] (Waits point vars channel) = At point vars
standing_at [] (Ended vars unread) = Done vars
standing_at [] (Stopped vars) = Done vars

-- Where a process of this trace stands after its first m acts. Before the first one it may also not have begun, and
-- then its variables are the first ones: what it assigns before its first get or put is no act.
abbrev pub IsHere : Code → Trace → ℕ → Standing → Type 0
IsHere code t m (NotBegun vars) = (m ≡ 0) × (vars ≡ code.vars)
IsHere code t m (At point vars) = At point vars ≡ standing_at (drop m t.steps) t.end
IsHere code t m (Done vars) = Done vars ≡ standing_at (drop m t.steps) t.end

-- a process stands here after its first m acts on these input histories
pub record StandsAt (code : Code) (inputs : List (List ℤ)) (m : ℕ) (standing : Standing) : Type 0 where
  pub within : m ≤ length (process_trace code inputs).steps
  pub here : IsHere code (process_trace code inputs) m standing
