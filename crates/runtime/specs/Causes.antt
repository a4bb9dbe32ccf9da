-- Why a hub is stopped.
use Rattle.std.specs.Prelude.{ℕ, ◌+◌, max, Bool, true, false, List, Option, Some, None}
use Rattle.protocol.specs.World.Common.{WorldView}
use Rattle.replay.specs.declared.kept.ScriptedEvent.{ScriptedEvent}
use Rattle.runtime.specs.Beginning.{first_lines}
use Rattle.runtime.specs.declared.bounds.Bounds.{Bounds}
use Rattle.runtime.specs.declared.cause.Cause.{Cause}
use Rattle.runtime.specs.declared.cause.Cause.TheVariants.{Over, Refused, Asked}

-- Whether the cause is so of the world of a run that is over in these worlds, and that somebody may stop or not. (A refusal is so of each.)
abbrev pub is_cause : (WorldView → Bool) → Bool → WorldView → Cause → Bool
is_cause over may_stop world Over = over world
is_cause over may_stop world (Refused fault) = true
is_cause over may_stop world Asked = may_stop

-- and whether one was noted
abbrev pub is_caused : (WorldView → Bool) → Bool → WorldView → Option Cause → Bool
is_caused over may_stop world None = false
is_caused over may_stop world (Some cause) = is_cause over may_stop world cause

-- The last round of a run by threads: that by which its rounds are over. (Each line of round 0, which comes before all else, may end a round.)
abbrev pub last_round : WorldView → List ScriptedEvent → Bounds → ℕ
last_round opening script bounds = max (opening.round + first_lines script) bounds.rounds
