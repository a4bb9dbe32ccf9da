-- What statements do, on what is unread of each input channel: the acts made, in order, and how it ends.
use Rattle.std.specs.Prelude.{ℕ, zero, suc, ◌+◌, ℤ, pos, Bool, cond, not, int_lt, int_le, int_rem, List, [], ◌∷◌, ◌++◌}
use Rattle.std.specs.Prelude.{slice_index_or, slice_set}
use Rattle.std.specs.Int.{int_wrapping_add, int_wrapping_sub, int_wrapping_mul, int_wrapping_div, int_wrapping_neg, w64}
use Rattle.std.specs.Ordering.{int_eq}
use Rattle.kahn_net.specs.declared.program.Operator.{Operator}
use Rattle.kahn_net.specs.declared.program.Operator.TheVariants.{Add, Subtract, Multiply, Divide, Remainder, Equal}
use Rattle.kahn_net.specs.declared.program.Operator.TheVariants.{NotEqual, Less, LessOrEqual, Greater, GreaterOrEqual}
use Rattle.kahn_net.specs.Streams.{history_of}
use Rattle.kahn_net.specs.Syntax.{Tree, Number, Name, Minus, Chain, Links, NoLinks, LinkThen, Block, Nothing, GetThen}
use Rattle.kahn_net.specs.Syntax.{AssignThen, PutThen, StopThen, IfThen, RepeatThen}

-- a comparison gives 1 or 0
abbrev pub one_if_so : Bool → ℤ
one_if_so holds = cond holds (pos 1) (pos 0)

-- An operator's value: signed numbers of 64 bits, where a sum, a difference and a product wrap modulo 2 ^ 64. A
-- quotient truncates toward zero and wraps, a remainder is what it leaves, and both are 0 where the right value is. A
-- comparison is 1 or 0.
abbrev pub apply : Operator → ℤ → ℤ → ℤ
apply Add a b = int_wrapping_add w64 a b
apply Subtract a b = int_wrapping_sub w64 a b
apply Multiply a b = int_wrapping_mul w64 a b
apply Divide a b = cond (int_eq b (pos 0)) (pos 0) (int_wrapping_div w64 a b)
apply Remainder a b = cond (int_eq b (pos 0)) (pos 0) (int_rem a b)
apply Equal a b = one_if_so (int_eq a b)
apply NotEqual a b = one_if_so (not (int_eq a b))
apply Less a b = one_if_so (int_lt a b)
apply LessOrEqual a b = one_if_so (int_le a b)
apply Greater a b = one_if_so (int_lt b a)
apply GreaterOrEqual a b = one_if_so (int_le b a)

abbrev mutual
  -- the value of an expression, with these values of its variables
  pub value_of : Tree → List ℤ → ℤ
  value_of (Number n) vars = n
  value_of (Name x) vars = slice_index_or vars x (pos 0)
  value_of (Minus value) vars = int_wrapping_neg w64 (value_of value vars)
  value_of (Chain first links) vars = value_along links vars (value_of first vars)

  -- the value of a chain whose links so far came to `left`
  pub value_along : Links → List ℤ → ℤ → ℤ
  value_along NoLinks vars left = left
  value_along (LinkThen operator value rest) vars left =
      value_along rest vars (apply operator left (value_of value vars))

-- one act: an item that is taken from a channel, or put on it
pub data Act : Type 0 where
  Got : (channel : ℕ) (item : ℤ) → Act
  Sent : (channel : ℕ) (item : ℤ) → Act

-- A point in a process: the site at which it stands (the number of its statement among the gets and puts of the
-- process, in order of the text), and the passes that remain of each repetition round it, the outermost first.
pub record Point : Type 0 where
  pub site : ℕ
  pub left : List ℕ

abbrev pub point_at : ℕ → List ℕ → Point
point_at site left = record { site = site; left = left }

-- an act, with the point at which it is made and the variables before it
pub record Step : Type 0 where
  pub point : Point
  pub vars : List ℤ
  pub act : Act

-- how statements end: after the last one, with the new variables and what is then unread; or waiting at a get for an
-- item of its channel; or at a stop, which finishes the process
pub data End : Type 0 where
  Ended : (vars : List ℤ) (unread : List (List ℤ)) → End
  Waits : (point : Point) (vars : List ℤ) (channel : ℕ) → End
  Stopped : (vars : List ℤ) → End

-- what statements do: the acts made, in order, and how it ends
pub record Trace : Type 0 where
  pub steps : List Step
  pub end : End

-- no act, and this end
abbrev pub no_steps : End → Trace
no_steps end = record { steps = []; end = end }

abbrev pub after_step : Step → Trace → Trace
after_step step t = record { steps = step ∷ t.steps; end = t.end }

-- takes the next item of a channel and goes on with it, or waits where nothing is unread
abbrev pub on_get : List ℤ → Point → ℕ → List ℤ → (ℤ → List ℤ → Trace) → Trace
on_get [] point channel vars go = no_steps (Waits point vars channel)
on_get (item ∷ later) point channel vars go =
    after_step (record { point = point; vars = vars; act = Got channel item }) (go item later)

-- goes on from where statements ended; what waits still waits, and what stopped has stopped
abbrev pub from_end : End → (List ℤ → List (List ℤ) → Trace) → Trace
from_end (Ended vars unread) go = go vars unread
from_end (Waits point vars channel) go = no_steps (Waits point vars channel)
from_end (Stopped vars) go = no_steps (Stopped vars)

-- one trace, and behind it the trace that follows from how the first one ends
abbrev pub then_do : Trace → (List ℤ → List (List ℤ) → Trace) → Trace
then_do t go = let more = from_end t.end go in record { steps = t.steps ++ more.steps; end = more.end }

-- how many gets and puts there are
abbrev pub sites_of : Block → ℕ
sites_of Nothing = 0
sites_of (GetThen x channel rest) = sites_of rest + 1
sites_of (AssignThen x e rest) = sites_of rest
sites_of (PutThen e channel rest) = sites_of rest + 1
sites_of (StopThen rest) = sites_of rest
sites_of (IfThen test first second rest) = sites_of first + (sites_of second + sites_of rest)
sites_of (RepeatThen times body rest) = sites_of body + sites_of rest

-- an `if` takes its first block where the value isn't 0, and else its second
abbrev pub choose : ℤ → Trace → Trace → Trace
choose value first second = cond (int_eq value (pos 0)) second first

-- so many passes of a repetition, one after the other, each of which is told how many remain, itself included
abbrev pub rounds : ℕ → (ℕ → List ℤ → List (List ℤ) → Trace) → List ℤ → List (List ℤ) → Trace
rounds zero pass vars unread = no_steps (Ended vars unread)
rounds (suc k) pass vars unread = then_do (pass (suc k) vars unread) (rounds k pass)

-- The trace of statements of which the first get or put has the number `site`. So many passes of the repetitions
-- round them remain, and `unread` is what is unread on each channel.
abbrev pub trace_of : ℕ → List ℕ → Block → List ℤ → List (List ℤ) → Trace
trace_of site left Nothing vars unread = no_steps (Ended vars unread)
trace_of site left (GetThen x channel rest) vars unread =
    on_get (history_of unread channel) (point_at site left) channel vars
    (λ item later. trace_of (site + 1) left rest (slice_set vars x item) (slice_set unread channel later))
trace_of site left (AssignThen x e rest) vars unread =
    trace_of site left rest (slice_set vars x (value_of e vars)) unread
trace_of site left (PutThen e channel rest) vars unread =
    after_step (record { point = point_at site left; vars = vars; act = Sent channel (value_of e vars) })
    (trace_of (site + 1) left rest vars unread)
trace_of site left (StopThen rest) vars unread = no_steps (Stopped vars)
trace_of site left (IfThen test first second rest) vars unread =
    then_do (choose (value_of test vars) (trace_of site left first vars unread)
    (trace_of (site + sites_of first) left second vars unread))
    (trace_of (site + sites_of first + sites_of second) left rest)
trace_of site left (RepeatThen times body rest) vars unread =
    then_do (rounds times (λ k. trace_of site (left ++ k ∷ []) body) vars unread)
    (trace_of (site + sites_of body) left rest)
