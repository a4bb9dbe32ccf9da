-- What the program prints of a run.
use Rattle.std.specs.Prelude.{ℕ, ◌+◌, ℤ, Bool, true, false, List, [], ◌∷◌, ◌++◌, codes}
use Rattle.std.specs.Fmt.{signed_decimal}
use Rattle.net_text.specs.Names.{NameTree}
use Rattle.protocol.specs.Node.Common.{Channel, Port, Outside, Process}

-- each item after a space
abbrev pub items_text : List ℤ → List ℕ
items_text [] = []
items_text (item ∷ items) = 32 ∷ signed_decimal item ++ items_text items

-- the line of an output: its name, a colon, its items and a line feed
abbrev pub output_line : NameTree → List ℤ → List ℕ
output_line name items = name.text ++ 58 ∷ items_text items ++ 10 ∷ []

-- one more where nobody here gets from the channel
abbrev pub one_if_output : Port → ℕ → ℕ
one_if_output Outside others = others + 1
one_if_output (Process p) others = others

-- how many outputs these channels are
abbrev pub output_count : List Channel → ℕ
output_count [] = 0
output_count (channel ∷ channels) = one_if_output channel.consumer (output_count channels)

-- "complete" or "partial", and a line feed
abbrev pub verdict : Bool → List ℕ
verdict true = codes "complete\n"
verdict false = codes "partial\n"

-- the next stream's line
abbrev pub next_line : NameTree → List (List ℤ) → (List (List ℤ) → List ℕ) → List ℕ
next_line name [] go = []
next_line name (items ∷ streams) go = output_line name items ++ go streams

abbrev pub line_if_output : Port → NameTree → List (List ℤ) → (List (List ℤ) → List ℕ) → List ℕ
line_if_output Outside name streams go = next_line name streams go
line_if_output (Process p) name streams go = go streams

-- a line for each output, in order of the channels, with the streams in the same order
abbrev pub output_lines : List Channel → List NameTree → List (List ℤ) → List ℕ
output_lines [] names streams = []
output_lines (channel ∷ channels) [] streams = []
output_lines (channel ∷ channels) (name ∷ names) streams =
    line_if_output channel.consumer name streams (output_lines channels names)

-- the text of a report: a line for each output, then `complete` or `partial`
abbrev pub report_text : List Channel → List NameTree → List (List ℤ) → Bool → List ℕ
report_text channels names streams complete = output_lines channels names streams ++ verdict complete
