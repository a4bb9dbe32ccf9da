-- What is printed of a folder.
use Rattle.std.specs.Fmt.{decimal}
use Rattle.std.specs.Prelude.{ℕ, suc, ◌==◌, ℤ, if◌then◌else◌, List, [], ◌∷◌, ◌++◌, codes, length, slice_index}
use Rattle.kahn_net.specs.Streams.{history_of}
use Rattle.net_text.specs.Names.{NameTree}
use Rattle.protocol.specs.Node.Common.{Channel, Net, node_count, network_of, Outside, Port, Process}
use Rattle.folder_status.specs.Kept.{items_of, name_of}
use Rattle.folder_status.specs.declared.ending.Ending.{Ending}
use Rattle.folder_status.specs.declared.ending.Ending.TheVariants.{Complete, Partial, Unsettled}
use Rattle.folder_status.specs.declared.kept.KeptOutput.{KeptOutput}

-- a word, a colon and a number
abbrev pub number_line : List ℕ → ℕ → List ℕ
number_line word number = word ++ (codes ": " ++ (decimal number ++ codes "\n"))

-- what the network is
abbrev pub net_lines : Net → List ℕ
net_lines net = number_line (codes "processes") (length net.program.processes.items)
    ++ (number_line (codes "nodes") (node_count (network_of net.program)) ++ number_line (codes "channels") (length net.program.channels.items))

-- how many items of an input were got, and how many there are
abbrev pub input_line : List ℕ → ℕ → ℕ → List ℕ
input_line name got count = codes "input " ++ (name ++ (codes ": " ++ (decimal got ++ (codes " of " ++ (decimal count ++ codes " got\n")))))

abbrev pub line_if_input : Port → List ℕ → List ℕ
line_if_input Outside line = line
line_if_input (Process p) line = []

-- a line for each input, the first channel having this number
abbrev pub input_lines : List NameTree → List (List ℤ) → List ℕ → ℕ → List Channel → List ℕ
input_lines names inputs got number [] = []
input_lines names inputs got number (channel ∷ channels) =
    line_if_input channel.producer (input_line (name_of names number) (slice_index got number) (length (history_of inputs number)))
    ++ input_lines names inputs got (suc number) channels

-- that not all items of a file were compared
abbrev pub compared_words : ℕ → ℕ → List ℕ
compared_words count compared = if count == compared then [] else codes ", " ++ (decimal compared ++ codes " compared")

-- that a line was cut off
abbrev pub cut_words : ℕ → List ℕ
cut_words bytes = if bytes == 0 then [] else codes ", and a line that was cut off"

-- how many items an output's file holds
abbrev pub output_line : List ℕ → ℕ → ℕ → ℕ → List ℕ
output_line name count compared cut_off =
    codes "output " ++ (name ++ (codes ": " ++ (decimal count ++ (codes " kept" ++ (compared_words count compared ++ (cut_words cut_off ++ codes "\n"))))))

-- a line for each output, the first one being at this place
abbrev pub output_lines : List NameTree → List ℕ → ℕ → List KeptOutput → List ℕ
output_lines names compared place [] = []
output_lines names compared place (output ∷ outputs) =
    output_line (name_of names output.channel) (length (items_of output)) (slice_index compared place) output.cut_off
    ++ output_lines names compared (suc place) outputs

-- whether more will come
abbrev pub verdict : Ending → List ℕ
verdict Complete = codes "complete\n"
verdict Partial = codes "partial\n"
verdict Unsettled = codes "unsettled\n"

-- all lines
abbrev pub status_text : Net → List (List ℤ) → List ℕ → List KeptOutput → List ℕ → Ending → List ℕ
status_text net inputs got outputs compared ending =
    net_lines net
    ++ (input_lines net.channel_names.items inputs got 0 net.program.channels.items
    ++ (output_lines net.channel_names.items compared 0 outputs ++ verdict ending))
