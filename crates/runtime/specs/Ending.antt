-- Why a run ended.
use Rattle.std.specs.Prelude.{◌≡◌, ◌≤◌, ◌||◌, ℕ, ℤ, Bool, true, false, List, length, map, nat_le, Option, Some, None}
use Rattle.std.specs.List.{list_all}
use Rattle.protocol.specs.World.Common.{are_quiet, output_channels, released_of, WorldView}
use Rattle.protocol.specs.Node.Common.{Channel, RecordView}
use Rattle.replay.specs.declared.kept.ScriptedEvent.{ScriptedEvent}
use Rattle.run_log.specs.Happened.{HasRun}
use Rattle.runtime.specs.declared.bounds.Bounds.{Bounds}
use Rattle.runtime.specs.declared.ending.RunEnd.{RunEnd}
use Rattle.runtime.specs.declared.ending.RunEnd.TheVariants.{Complete, Rounds, Items, Refused, Stopped}

-- each of these streams has so many items, where that is asked for
abbrev pub have_items : Option ℕ → List (List ℤ) → Bool
have_items None streams = false
have_items (Some items) streams = list_all (λ (stream : List ℤ). nat_le items (length stream)) streams

-- A run is over: nothing is left to do, the rounds are over, or each output of these channels has the items that are asked for.
abbrev pub is_over : List Channel → Bounds → WorldView → Bool
is_over channels bounds world =
    are_quiet world || (nat_le bounds.rounds world.round || have_items bounds.items
    (map (λ (channel : ℕ). released_of channel world.stations) (output_channels 0 channels)))

-- a call was refused
abbrev pub was_refused : RunEnd → Bool
was_refused Complete = false
was_refused Rounds = false
was_refused Items = false
was_refused (Refused fault) = true
was_refused Stopped = false

-- none of the reasons for which a run is over
abbrev pub goes_on : RunEnd → Bool
goes_on Complete = false
goes_on Rounds = false
goes_on Items = false
goes_on (Refused fault) = false
goes_on Stopped = true

-- Why a run ended is so of the world to which it came: nothing is left to do; as many rounds are over as are allowed;
-- each output of these channels has as many items as are asked for. (Where a call was refused, or the hub was
-- stopped, nothing is said of it.)
abbrev pub IsOver : List Channel → Bounds → WorldView → RunEnd → Type 0
IsOver channels bounds world Complete = are_quiet world ≡ true
IsOver channels bounds world Rounds = bounds.rounds ≤ world.round
IsOver channels bounds world Items =
    (items : ℕ) × (bounds.items ≡ Some items)
    × (list_all (λ (stream : List ℤ). nat_le items (length stream))
    (map (λ (channel : ℕ). released_of channel world.stations) (output_channels 0 channels)) ≡ true)
IsOver channels bounds world (Refused fault) = Unit {0}
IsOver channels bounds world Stopped = Unit {0}

-- A history of a run leads to a world in which nothing is left to do.
abbrev pub HasBeenComplete : List (RecordView → Bool) → List ScriptedEvent → WorldView → Type 0
HasBeenComplete fits script opening =
    ∥ ((world : WorldView) × HasRun fits script opening world × (are_quiet world ≡ true)) ∥₁
