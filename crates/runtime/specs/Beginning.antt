-- With what a history of a run by threads begins.
use Rattle.std.specs.Prelude.{◌≡◌, ◌==◌, ◌&&◌, ℕ, zero, suc, Bool, true, false, if◌then◌else◌, List, [], ◌∷◌}
use Rattle.replay.specs.Replay.{Happening, Made, Silent, Widened}
use Rattle.replay.specs.declared.kept.Maker.TheVariants.{Node, Driver}
use Rattle.replay.specs.declared.kept.ScriptedEvent.{ScriptedEvent}
use Rattle.runtime.specs.declared.ending.RunEnd.{RunEnd}
use Rattle.runtime.specs.declared.ending.RunEnd.TheVariants.{Complete, Rounds, Items, Refused, Stopped}

-- how many lines at a script's head are of round 0
abbrev pub first_lines : List ScriptedEvent → ℕ
first_lines [] = 0
first_lines (line ∷ rest) = if line.round == 0 then suc (first_lines rest) else 0

abbrev pub is_by_driver : Happening → Bool
is_by_driver (Made (Node k) event said) = false
is_by_driver (Made Driver event said) = true
is_by_driver (Silent reason) = false
is_by_driver (Widened channel) = false

abbrev pub begins_by_driver : ℕ → List Happening → Bool
begins_by_driver zero happened = true
begins_by_driver (suc lines) [] = false
begins_by_driver (suc lines) (next ∷ rest) = is_by_driver next && begins_by_driver lines rest

-- The first so many that happened are events of the driver. (So they are those of the script's first lines, in order: a driver's
-- event is that of the script's next line.)
abbrev pub BeginsByDriver : ℕ → List Happening → Type 0
BeginsByDriver lines happened = begins_by_driver lines happened ≡ true

-- Where a run came to its end, the events of the script's lines of round 0 come before all others. (One that was refused may have ended before.)
abbrev pub HasBegun : List ScriptedEvent → List Happening → RunEnd → Type 0
HasBegun script happened Complete = BeginsByDriver (first_lines script) happened
HasBegun script happened Rounds = BeginsByDriver (first_lines script) happened
HasBegun script happened Items = BeginsByDriver (first_lines script) happened
HasBegun script happened (Refused fault) = Unit {0}
HasBegun script happened Stopped = BeginsByDriver (first_lines script) happened
