-- Inputs and outputs by their names, and the script of a run.
use Rattle.std.specs.Prelude.{ℕ, Bool, true, false, IsTrue, List, [], Option, Some, None, Vec, slice_get}
use Rattle.std.specs.declared.alloc.Global.{Global}
use Rattle.net_check.specs.Resolution.{Reads}
use Rattle.protocol.specs.Node.Common.{Channel, Net, Port, Outside, Process}
use Rattle.replay.specs.declared.kept.ScriptedEvent.{ScriptedEvent}

-- no process is at this end of a channel
abbrev pub is_outside : Port → Bool
is_outside Outside = true
is_outside (Process number) = false

-- the items of this channel, if there is one, come from outside
abbrev pub comes_in : Option Channel → Bool
comes_in None = false
comes_in (Some channel) = is_outside channel.producer

-- they go outside
abbrev pub goes_out : Option Channel → Bool
goes_out None = false
goes_out (Some channel) = is_outside channel.consumer

-- the channel of this number is the input of this name
abbrev pub IsInputNamed : Net → List ℕ → ℕ → Type 0
IsInputNamed net name number =
    Reads net.channel_names.items number name × IsTrue (comes_in (slice_get net.program.channels.items number))

-- the channel of this number is the output of this name
abbrev pub IsOutputNamed : Net → List ℕ → ℕ → Type 0
IsOutputNamed net name number =
    Reads net.channel_names.items number name × IsTrue (goes_out (slice_get net.program.channels.items number))

-- the events of a run's script, of which there are none where it has none
abbrev pub script_of : Option (Vec ScriptedEvent Global) → List ScriptedEvent
script_of None = []
script_of (Some script) = script.items
