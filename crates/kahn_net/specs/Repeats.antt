-- The repetitions round a site, and the passes that can remain of each where a process stands there.
use Rattle.std.specs.Prelude.{ℕ, ◌+◌, ◌-◌, ◌*◌, ◌≤◌, ◌==◌, nat_lt, leb, cond, Bool, true, ◌&&◌, List, []}
use Rattle.std.specs.Prelude.{◌∷◌, Option, Some, None}
use Rattle.std.specs.List.{AllZip}
use Rattle.kahn_net.specs.Syntax.{Block, Nothing, GetThen, AssignThen, PutThen, StopThen, IfThen, RepeatThen, Code}
use Rattle.kahn_net.specs.declared.limits.TheConstants.{MAX_TIMES, MAX_NESTED_TIMES, MAX_REPEATS}
use Rattle.kahn_net.specs.Statements.{Point, sites_of}

-- how often each repetition round this site is made, the outermost first, among these statements, the first of which
-- has this number
abbrev pub repeats_on : ℕ → Block → ℕ → List ℕ
repeats_on number Nothing site = []
repeats_on number (GetThen x channel rest) site = cond (number == site) [] (repeats_on (number + 1) rest site)
repeats_on number (AssignThen x e rest) site = repeats_on number rest site
repeats_on number (PutThen e channel rest) site = cond (number == site) [] (repeats_on (number + 1) rest site)
repeats_on number (StopThen rest) site = repeats_on number rest site
repeats_on number (IfThen test first second rest) site =
    cond (nat_lt site (number + sites_of first)) (repeats_on number first site)
    (cond (nat_lt site (number + sites_of first + sites_of second)) (repeats_on (number + sites_of first) second site)
    (repeats_on (number + sites_of first + sites_of second) rest site))
repeats_on number (RepeatThen times body rest) site =
    cond (nat_lt site (number + sites_of body)) (times ∷ repeats_on number body site)
    (repeats_on (number + sites_of body) rest site)

abbrev pub repeats_in_body : ℕ → Option Block → ℕ → List ℕ
repeats_in_body number None site = []
repeats_in_body number (Some body) site = repeats_on number body site

-- the same of a site of a process
abbrev pub repeats_at : Code → ℕ → List ℕ
repeats_at code site =
    cond (nat_lt site (sites_of code.prelude)) (repeats_on 0 code.prelude site)
    (repeats_in_body (sites_of code.prelude) code.body site)

-- so many passes can remain of a repetition that is made so often, the one at hand included
abbrev pub CanRemain : ℕ → ℕ → Type 0
CanRemain left times = (1 ≤ left) × (left ≤ times)

-- at a point of a process at least one pass remains of each repetition round its site, and no more than the
-- repetition has
abbrev pub FitsRepeats : Code → Point → Type 0
FitsRepeats code point = AllZip CanRemain point.left (repeats_at code point.site)

-- A repetition of this number is within its limits where so many more may be opened and those round it are made so
-- often in all.
abbrev pub is_repeat_within : ℕ → ℕ → ℕ → Bool
is_repeat_within open_yet round times =
    nat_lt 0 open_yet && (nat_lt 0 times && (leb times MAX_TIMES && leb (round * times) MAX_NESTED_TIMES))

-- each repetition of these statements is within its limits
abbrev pub repeats_within : ℕ → ℕ → Block → Bool
repeats_within open_yet round Nothing = true
repeats_within open_yet round (GetThen x channel rest) = repeats_within open_yet round rest
repeats_within open_yet round (AssignThen x e rest) = repeats_within open_yet round rest
repeats_within open_yet round (PutThen e channel rest) = repeats_within open_yet round rest
repeats_within open_yet round (StopThen rest) = repeats_within open_yet round rest
repeats_within open_yet round (IfThen test first second rest) =
    repeats_within open_yet round first
    && (repeats_within open_yet round second && repeats_within open_yet round rest)
repeats_within open_yet round (RepeatThen times body rest) =
    is_repeat_within open_yet round times
    && (repeats_within (open_yet - 1) (round * times) body && repeats_within open_yet round rest)

abbrev pub body_repeats_within : Option Block → Bool
body_repeats_within None = true
body_repeats_within (Some body) = repeats_within MAX_REPEATS 1 body

-- Each repetition of a process: made from 1 to 1000 times, with those round it no more than 1,000,000 times in all, and
-- no more than 64 stand round a statement.
abbrev pub code_repeats_within : Code → Bool
code_repeats_within code = repeats_within MAX_REPEATS 1 code.prelude && body_repeats_within code.body
