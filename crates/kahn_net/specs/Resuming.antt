-- What a process does from where it stands, on what is then unread.
use Rattle.std.specs.Prelude.{ℕ, ◌+◌, ◌-◌, ℤ, List, [], ◌∷◌, ◌++◌, drop, slice_set, Option, Some, None, ◌==◌, nat_lt}
use Rattle.std.specs.Prelude.{cond}
use Rattle.kahn_net.specs.Streams.{history_of}
use Rattle.kahn_net.specs.Syntax.{Block, Nothing, GetThen, AssignThen, PutThen, StopThen, IfThen, RepeatThen, Code}
use Rattle.kahn_net.specs.Statements.{Act, Got, Sent, Point, Step, Ended, Trace, no_steps, trace_of, then_do, rounds}
use Rattle.kahn_net.specs.Statements.{sites_of}
use Rattle.kahn_net.specs.Processes.{Standing, NotBegun, At, Done, loop_trace}

-- how many passes of the outermost repetition remain, the one at hand included: one where none are told, as of no point
-- at which a process stands
abbrev pub passes_left : List ℕ → ℕ
passes_left [] = 1
passes_left (k ∷ deeper) = k

-- What statements do from a site on, where the first of them has the site `number` and so many passes of the
-- repetitions round them remain; `inner` are the passes that remain of those among them that stand round the site, the
-- outermost first. Inside a block of an if it is the rest of that block, and then what stands behind the if; inside the
-- block of a repetition it is the rest of the pass at hand, the passes that remain past it, and then what stands behind
-- the repetition.
abbrev pub trace_on : ℕ → List ℕ → Block → ℕ → List ℕ → List ℤ → List (List ℤ) → Trace
trace_on number left Nothing site inner vars unread = no_steps (Ended vars unread)
trace_on number left (GetThen x channel rest) site inner vars unread =
    cond (number == site) (trace_of number left (GetThen x channel rest) vars unread)
    (trace_on (number + 1) left rest site inner vars unread)
trace_on number left (AssignThen x e rest) site inner vars unread = trace_on number left rest site inner vars unread
trace_on number left (PutThen e channel rest) site inner vars unread =
    cond (number == site) (trace_of number left (PutThen e channel rest) vars unread)
    (trace_on (number + 1) left rest site inner vars unread)
trace_on number left (StopThen rest) site inner vars unread = trace_on number left rest site inner vars unread
trace_on number left (IfThen test first second rest) site inner vars unread =
    cond (nat_lt site (number + sites_of first))
    (then_do (trace_on number left first site inner vars unread)
    (trace_of (number + sites_of first + sites_of second) left rest))
    (cond (nat_lt site (number + sites_of first + sites_of second))
    (then_do (trace_on (number + sites_of first) left second site inner vars unread)
    (trace_of (number + sites_of first + sites_of second) left rest))
    (trace_on (number + sites_of first + sites_of second) left rest site inner vars unread))
trace_on number left (RepeatThen times body rest) site inner vars unread =
    cond (nat_lt site (number + sites_of body))
    (then_do
    (then_do (trace_on number (left ++ passes_left inner ∷ []) body site (drop 1 inner) vars unread)
    (rounds (passes_left inner - 1) (λ k. trace_of number (left ++ k ∷ []) body)))
    (trace_of (number + sites_of body) left rest))
    (trace_on (number + sites_of body) left rest site inner vars unread)

-- the same of a loop's body, whose first get or put has this number
abbrev pub body_on : ℕ → Option Block → Point → List ℤ → List (List ℤ) → Trace
body_on number None point vars unread = no_steps (Ended vars unread)
body_on number (Some body) point vars unread = trace_on number [] body point.site point.left vars unread

-- from a point on, until the prelude or the pass of the loop's body ends
abbrev pub code_on : Code → Point → List ℤ → List (List ℤ) → Trace
code_on code point vars unread =
    cond (nat_lt point.site (sites_of code.prelude)) (trace_on 0 [] code.prelude point.site point.left vars unread)
    (body_on (sites_of code.prelude) code.body point vars unread)

-- what a process does from where it stands: the rest of its prelude or of its pass, and then its loop
abbrev pub trace_from : Code → Standing → List (List ℤ) → Trace
trace_from code (NotBegun vars) unread =
    then_do (trace_of 0 [] code.prelude vars unread) (loop_trace (sites_of code.prelude) code.body)
trace_from code (At point vars) unread =
    then_do (code_on code point vars unread) (loop_trace (sites_of code.prelude) code.body)
trace_from code (Done vars) unread = no_steps (Ended vars unread)

-- what is unread after an act
abbrev pub left_by : Act → List (List ℤ) → List (List ℤ)
left_by (Got channel item) unread = slice_set unread channel (drop 1 (history_of unread channel))
left_by (Sent channel item) unread = unread

-- what is unread after these steps
abbrev pub left_after : List Step → List (List ℤ) → List (List ℤ)
left_after [] unread = unread
left_after (step ∷ steps) unread = left_after steps (left_by step.act unread)
