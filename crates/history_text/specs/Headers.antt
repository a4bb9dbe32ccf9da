-- What the text of a history begins with: its form, and the channels and processes of the network, each with its number.
use Rattle.std.specs.Prelude.{ℕ, ◌+◌, List, [], ◌∷◌, ◌++◌, codes}
use Rattle.std.specs.Fmt.{decimal}
use Rattle.kahn_net.specs.declared.program.Process.{Process as ProcessCode}
use Rattle.net_text.specs.Names.{NameTree}
use Rattle.protocol.specs.Node.Common.{Channel, Net, Port, Outside, Process}

-- what stands at an end of a channel: a process, by its number
abbrev pub port_text : Port → List ℕ
port_text Outside = codes "outside"
port_text (Process process) = decimal process

-- a channel with its number, its name, who puts on it and who gets from it
abbrev pub channel_line : ℕ → Channel → List ℕ → List ℕ
channel_line number channel name =
    codes "channel " ++ decimal number ++ codes " " ++ name ++ codes " " ++ port_text channel.producer
    ++ codes " " ++ port_text channel.consumer ++ codes "\n"

-- these channels, the first of which has this number, and their names
abbrev pub channels_text : ℕ → List Channel → List NameTree → List ℕ
channels_text number [] names = []
channels_text number (channel ∷ channels) [] = []
channels_text number (channel ∷ channels) (name ∷ names) =
    channel_line number channel name.text ++ channels_text (number + 1) channels names

-- a process with its number, its name and its node
abbrev pub process_line : ℕ → ℕ → List ℕ → List ℕ
process_line number node name =
    codes "process " ++ decimal number ++ codes " " ++ name ++ codes " " ++ decimal node ++ codes "\n"

abbrev pub processes_text : ℕ → List ProcessCode → List NameTree → List ℕ
processes_text number [] names = []
processes_text number (process ∷ processes) [] = []
processes_text number (process ∷ processes) (name ∷ names) =
    process_line number process.node name.text ++ processes_text (number + 1) processes names

abbrev pub header_text : Net → List ℕ
header_text net =
    codes "history 2\n" ++ channels_text 0 net.program.channels.items net.channel_names.items
    ++ processes_text 0 net.program.processes.items net.process_names.items
