-- What an error reads as.
use Rattle.std.specs.Prelude.{◌≡◌, ℕ, Bool, List, ◌++◌, Option, Some, None, codes}
use Rattle.std.specs.Fmt.{decimal}
use Rattle.net_text.specs.Faults as text
use Rattle.net_text.specs.declared.fault.TextFault.{TextFault}
use Rattle.net_text.specs.declared.fault.TextFault.TheVariants as text_fault
use Rattle.net_check.specs.Faults as net
use Rattle.net_check.specs.declared.fault.NetFault.{NetFault}
use Rattle.net_check.specs.declared.fault.NetFault.TheVariants as net_fault
use Rattle.fail_script.specs.Faults as script
use Rattle.fail_script.specs.declared.fault.ScriptFault.{ScriptFault}
use Rattle.fail_script.specs.declared.fault.ScriptFault.TheVariants as script_fault
use Rattle.cobaltmidge.specs.Failing.{IsRunFault, run_fault_number}
use Rattle.cobaltmidge.specs.declared.error.Error.{Error}
use Rattle.cobaltmidge.specs.declared.error.Error.TheVariants.{NoMemory, NetText, Net, InputsText, Inputs, Script, Run}
use Rattle.cobaltmidge.specs.declared.fault.RunFault.{RunFault}
use Rattle.cobaltmidge.specs.declared.fault.RunFault.TheVariants as run_fault

-- ---- want of memory is the same error wherever it comes up

abbrev pub net_text_error : TextFault → Error
net_text_error text_fault.NoMemory = NoMemory
net_text_error (text_fault.BadToken line) = NetText (text_fault.BadToken line)
net_text_error (text_fault.Unexpected line) = NetText (text_fault.Unexpected line)
net_text_error (text_fault.NumberRange line) = NetText (text_fault.NumberRange line)
net_text_error (text_fault.TooLong line) = NetText (text_fault.TooLong line)

abbrev pub inputs_text_error : TextFault → Error
inputs_text_error text_fault.NoMemory = NoMemory
inputs_text_error (text_fault.BadToken line) = InputsText (text_fault.BadToken line)
inputs_text_error (text_fault.Unexpected line) = InputsText (text_fault.Unexpected line)
inputs_text_error (text_fault.NumberRange line) = InputsText (text_fault.NumberRange line)
inputs_text_error (text_fault.TooLong line) = InputsText (text_fault.TooLong line)

abbrev pub net_error : NetFault → Error
net_error net_fault.NoMemory = NoMemory
net_error net_fault.MissingInput = Net net_fault.MissingInput
net_error (net_fault.TwiceNamed line) = Net (net_fault.TwiceNamed line)
net_error (net_fault.UnknownName line) = Net (net_fault.UnknownName line)
net_error (net_fault.TwoProducers line) = Net (net_fault.TwoProducers line)
net_error (net_fault.TwoConsumers line) = Net (net_fault.TwoConsumers line)
net_error (net_fault.LoopWithoutGet line) = Net (net_fault.LoopWithoutGet line)
net_error (net_fault.Limit line) = Net (net_fault.Limit line)
net_error (net_fault.NoProducer line) = Net (net_fault.NoProducer line)
net_error (net_fault.NoConsumer line) = Net (net_fault.NoConsumer line)

abbrev pub inputs_error : NetFault → Error
inputs_error net_fault.NoMemory = NoMemory
inputs_error net_fault.MissingInput = Inputs net_fault.MissingInput
inputs_error (net_fault.TwiceNamed line) = Inputs (net_fault.TwiceNamed line)
inputs_error (net_fault.UnknownName line) = Inputs (net_fault.UnknownName line)
inputs_error (net_fault.TwoProducers line) = Inputs (net_fault.TwoProducers line)
inputs_error (net_fault.TwoConsumers line) = Inputs (net_fault.TwoConsumers line)
inputs_error (net_fault.LoopWithoutGet line) = Inputs (net_fault.LoopWithoutGet line)
inputs_error (net_fault.Limit line) = Inputs (net_fault.Limit line)
inputs_error (net_fault.NoProducer line) = Inputs (net_fault.NoProducer line)
inputs_error (net_fault.NoConsumer line) = Inputs (net_fault.NoConsumer line)

abbrev pub script_error : ScriptFault → Error
script_error script_fault.NoMemory = NoMemory
script_error (script_fault.BadLine line) = Script (script_fault.BadLine line)
script_error (script_fault.UnknownNode line) = Script (script_fault.UnknownNode line)

abbrev pub run_error : RunFault → Error
run_error run_fault.NoMemory = NoMemory
run_error run_fault.Device = Run run_fault.Device
run_error run_fault.PastNumber = Run run_fault.PastNumber

-- a run comes to no end for this reason
abbrev pub IsRunError : Bool → Error → Type 0
IsRunError threads error = (fault : RunFault) × IsRunFault threads fault × (error ≡ run_error fault)

-- ---- the words of each refusal

abbrev pub text_words : TextFault → List ℕ
text_words text_fault.NoMemory = codes "no memory"
text_words (text_fault.BadToken line) = codes "a character that can't stand there"
text_words (text_fault.Unexpected line) = codes "the text can't go on so"
text_words (text_fault.NumberRange line) = codes "a number past its range"
text_words (text_fault.TooLong line) = codes "a name, a nesting or a text that is too long"

abbrev pub net_words : NetFault → List ℕ
net_words net_fault.NoMemory = codes "no memory"
net_words (net_fault.TwiceNamed line) = codes "named twice"
net_words (net_fault.UnknownName line) = codes "nothing of this name is declared"
net_words (net_fault.TwoProducers line) = codes "a second producer of a channel"
net_words (net_fault.TwoConsumers line) = codes "a second consumer of a channel"
net_words (net_fault.LoopWithoutGet line) = codes "a loop that may go round without an item"
net_words (net_fault.Limit line) = codes "past a limit"
net_words (net_fault.NoProducer line) = codes "a channel on which nobody puts"
net_words (net_fault.NoConsumer line) = codes "a channel from which nobody gets"
net_words net_fault.MissingInput = codes "an input without its line"

abbrev pub script_words : ScriptFault → List ℕ
script_words script_fault.NoMemory = codes "no memory"
script_words (script_fault.BadLine line) = codes "no line of a failure script"
script_words (script_fault.UnknownNode line) = codes "a node that the network doesn't have"

abbrev pub run_words : RunFault → List ℕ
run_words run_fault.NoMemory = codes "no memory"
run_words run_fault.Device = codes "a disk failed while the world was made"
run_words run_fault.PastNumber = codes "a count of the history would pass 2^63 - 1"

-- a refusal: which text, on which line where it is on one, by which number, and in words
abbrev pub refusal_text : List ℕ → Option ℕ → ℕ → List ℕ → List ℕ
refusal_text source (Some line) number words =
    source ++ codes " line " ++ decimal line ++ codes ": refusal " ++ decimal number ++ codes ": " ++ words
refusal_text source None number words = source ++ codes ": refusal " ++ decimal number ++ codes ": " ++ words

-- the line of an error: the text that is refused, the line of it, the number of the refusal, and words
abbrev pub error_text : Error → List ℕ
error_text NoMemory = codes "no memory"
error_text (NetText fault) =
    refusal_text (codes "net") (text.line_of fault) (text.number_of fault) (text_words fault)
error_text (Net fault) = refusal_text (codes "net") (net.line_of fault) (net.number_of fault) (net_words fault)
error_text (InputsText fault) =
    refusal_text (codes "inputs") (text.line_of fault) (text.number_of fault) (text_words fault)
error_text (Inputs fault) =
    refusal_text (codes "inputs") (net.line_of fault) (net.number_of fault) (net_words fault)
error_text (Script fault) =
    refusal_text (codes "script") (script.line_of fault) (script.number_of fault) (script_words fault)
error_text (Run fault) = refusal_text (codes "run") None (run_fault_number fault) (run_words fault)

abbrev pub error_number : Error → ℕ
error_number NoMemory = 1
error_number (NetText fault) = text.number_of fault
error_number (Net fault) = net.number_of fault
error_number (InputsText fault) = text.number_of fault
error_number (Inputs fault) = net.number_of fault
error_number (Script fault) = script.number_of fault
error_number (Run fault) = run_fault_number fault

abbrev pub error_line : Error → Option ℕ
error_line NoMemory = None
error_line (NetText fault) = text.line_of fault
error_line (Net fault) = net.line_of fault
error_line (InputsText fault) = text.line_of fault
error_line (Inputs fault) = net.line_of fault
error_line (Script fault) = script.line_of fault
error_line (Run fault) = None

abbrev pub error_words : Error → List ℕ
error_words NoMemory = codes "no memory"
error_words (NetText fault) = text_words fault
error_words (Net fault) = net_words fault
error_words (InputsText fault) = text_words fault
error_words (Inputs fault) = net_words fault
error_words (Script fault) = script_words fault
error_words (Run fault) = run_words fault
