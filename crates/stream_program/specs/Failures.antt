-- What is printed on standard error where the streams end early, and the exit status.
use Rattle.std.specs.Prelude.{ℕ, List, [], ◌++◌, Option, Some, None, codes, slice_get, string_bytes}
use Rattle.std.specs.Fmt.{decimal}
use Rattle.item_text.specs.Faults.{line_of}
use Rattle.kahn_program.specs.Failures as text
use Rattle.net_text.specs.Names.{NameTree}
use Rattle.stream_words.specs.declared.sources.InputSource.{InputSource}
use Rattle.stream_program.specs.declared.failure.StreamFailure.{StreamFailure}
use Rattle.stream_program.specs.declared.failure.StreamFailure.TheVariants.{Text, Refused, Missing, NotOne, Port, Full}
use Rattle.host_ports.specs.Forms.{bad_number}
use Rattle.host_ports.specs.declared.fault.BadItem.{BadItem}
use Rattle.host_ports.specs.declared.fault.BadItem.TheVariants.{InText, Cut}
use Rattle.host_ports.specs.declared.fault.PortFault.{PortFault}
use Rattle.host_ports.specs.declared.fault.PortFault.TheVariants.{NoMemory, Unread, Item, Unsaid}

abbrev pub text_of : Option NameTree → List ℕ
text_of None = []
text_of (Some name) = name.text

-- the name of a channel
abbrev pub name_of : List NameTree → ℕ → List ℕ
name_of names channel = text_of (slice_get names channel)

abbrev pub input_in : Option InputSource → List ℕ
input_in None = []
input_in (Some source) = string_bytes source.input

-- the name of the input that a source is for
abbrev pub input_of : List InputSource → ℕ → List ℕ
input_of sources place = input_in (slice_get sources place)

-- the word `input` and its name
abbrev pub of_input : List ℕ → List ℕ
of_input name = codes "input " ++ name

-- the number of a line
abbrev pub line_words : ℕ → List ℕ
line_words number = codes " line " ++ decimal number

-- the number of an item
abbrev pub item_words : ℕ → List ℕ
item_words number = codes " item " ++ decimal number

-- the number of a refusal, and a line feed
abbrev pub refusal_end : ℕ → List ℕ
refusal_end number = codes ": refusal " ++ decimal number ++ codes "\n"

-- where in what came by a source a fault stands: in a line of its text, or in an item of its bytes
abbrev pub place_words : BadItem → List ℕ
place_words (InText fault) = line_words (line_of fault)
place_words (Cut item) = item_words item

abbrev pub item_fault_line : List ℕ → BadItem → List ℕ
item_fault_line name fault = (of_input name ++ place_words fault) ++ refusal_end (bad_number fault)

abbrev pub port_fault_line : List NameTree → PortFault → List ℕ
port_fault_line names NoMemory = codes "no memory\n"
port_fault_line names (Unread input) = of_input (name_of names input) ++ codes ": cannot be read\n"
port_fault_line names (Item input fault) = item_fault_line (name_of names input) fault
port_fault_line names Unsaid = codes "output: cannot be written\n"

-- the line of a failure, with its line feed
abbrev pub failure_line : List NameTree → List InputSource → StreamFailure → List ℕ
failure_line names sources (Text failure) = text.failure_line failure
failure_line names sources (Refused place number) = of_input (input_of sources place) ++ refusal_end number
failure_line names sources (Missing input) = of_input (name_of names input) ++ refusal_end 18
failure_line names sources NotOne = codes "--stream=bare: not exactly one output\n"
failure_line names sources (Port fault) = port_fault_line names fault
failure_line names sources Full = codes "refusal 50\n"

abbrev pub port_status : PortFault → ℕ
port_status NoMemory = 1
port_status (Unread input) = 1
port_status (Item input fault) = 2
port_status Unsaid = 1

-- the exit status
abbrev pub status_of : StreamFailure → ℕ
status_of (Text failure) = text.status_of failure
status_of (Refused place number) = 2
status_of (Missing input) = 2
status_of NotOne = 2
status_of (Port fault) = port_status fault
status_of Full = 1
