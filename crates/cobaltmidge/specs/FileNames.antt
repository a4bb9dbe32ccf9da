-- The names of the files of a network's outputs.
use Rattle.std.specs.Prelude.{ℕ, List, [], ◌∷◌, ◌++◌, codes}
use Rattle.net_text.specs.Names.{NameTree}
use Rattle.protocol.specs.Node.Common.{Channel, Port, Outside, Process}

-- the name of an output's file
abbrev pub file_name : NameTree → List ℕ
file_name name = name.text ++ codes ".items"

abbrev pub name_if_output : Port → NameTree → List (List ℕ) → List (List ℕ)
name_if_output Outside name names = file_name name ∷ names
name_if_output (Process p) name names = names

-- those of all outputs, in order of the channels
abbrev pub file_names : List Channel → List NameTree → List (List ℕ)
file_names [] names = []
file_names (channel ∷ channels) [] = []
file_names (channel ∷ channels) (name ∷ names) = name_if_output channel.consumer name (file_names channels names)
