-- What texts stand for, and why one is refused.
use Rattle.std.specs.Prelude.{◌≡◌, ℕ, List, Option, Some, None, IsUtf8}
use Rattle.net_text.specs.Faults as text
use Rattle.net_text.specs.Grammar.{IsTextOf}
use Rattle.net_text.specs.InputLines.{IsInputsText, IsInputsFault}
use Rattle.net_text.specs.Texts.{IsParseFault}
use Rattle.net_text.specs.Trees.{DeclarationTree, InputTree}
use Rattle.net_text.specs.declared.fault.TextFault.{TextFault}
use Rattle.net_check.specs.Binding.{HasInputFault}
use Rattle.net_check.specs.NetFaults.{HasFault}
use Rattle.protocol.specs.Node.Common.{network_of, Net}
use Rattle.net_check.specs.declared.fault.NetFault.{NetFault}
use Rattle.net_check.specs.declared.fault.NetFault.TheVariants as fault
use Rattle.fail_script.specs.Faults as script
use Rattle.fail_script.specs.Lines.{IsScriptFault}
use Rattle.fail_script.specs.declared.fault.ScriptFault.{ScriptFault}
use Rattle.kahn_program.specs.declared.failure.Failure.{Failure}
use Rattle.kahn_program.specs.declared.failure.Failure.TheVariants.{Line, Whole, NotText, NoMemory}
use Rattle.kahn_program.specs.declared.failure.Source.{Source}
use Rattle.kahn_program.specs.declared.failure.Source.TheVariants as source

-- a fault with a line is named with it; without one it is want of memory
abbrev pub at_line : Source → ℕ → Option ℕ → Failure → Failure
at_line source number (Some line) otherwise = Line source line number
at_line source number None otherwise = otherwise

abbrev pub text_failure_of : Source → TextFault → Failure
text_failure_of source fault = at_line source (text.number_of fault) (text.line_of fault) NoMemory

abbrev pub net_failure_of : Source → NetFault → Failure
net_failure_of source fault.NoMemory = NoMemory
net_failure_of source fault.MissingInput = Whole source 18
net_failure_of source (fault.TwiceNamed line) = Line source line 10
net_failure_of source (fault.UnknownName line) = Line source line 11
net_failure_of source (fault.TwoProducers line) = Line source line 12
net_failure_of source (fault.TwoConsumers line) = Line source line 13
net_failure_of source (fault.LoopWithoutGet line) = Line source line 14
net_failure_of source (fault.Limit line) = Line source line 15
net_failure_of source (fault.NoProducer line) = Line source line 16
net_failure_of source (fault.NoConsumer line) = Line source line 17

abbrev pub script_failure_of : ScriptFault → Failure
script_failure_of fault = at_line source.Script (script.number_of fault) (script.line_of fault) NoMemory

-- these bytes aren't text
abbrev pub IsNotText : Source → List ℕ → Failure → Type 0
IsNotText source bytes failure = (failure ≡ NotText source) × ¬ (IsUtf8 bytes)

-- this text isn't in the grammar, or its tree has a fault
pub data IsNetTextFailure : List ℕ → Failure → Type 0 where
  bad_text : {bytes : List ℕ} {failure : Failure} (fault : TextFault) → IsParseFault bytes fault
      → failure ≡ text_failure_of source.Net fault → IsNetTextFailure bytes failure
  bad_net : {bytes : List ℕ} {failure : Failure} (tree : List DeclarationTree) (fault : NetFault) → IsTextOf tree bytes
      → HasFault tree fault → failure ≡ net_failure_of source.Net fault → IsNetTextFailure bytes failure

-- this text isn't of inputs' lines, or its lines have a fault for the network
pub data IsInputsTextFailure : Net → List ℕ → Failure → Type 0 where
  bad_lines : {net : Net} {bytes : List ℕ} {failure : Failure} (fault : TextFault) → IsInputsFault bytes fault
      → failure ≡ text_failure_of source.Inputs fault → IsInputsTextFailure net bytes failure
  bad_inputs : {net : Net} {bytes : List ℕ} {failure : Failure} (lines : List InputTree) (fault : NetFault)
      → IsInputsText bytes lines → HasInputFault net.channel_names.items (network_of net.program) lines fault
      → failure ≡ net_failure_of source.Inputs fault → IsInputsTextFailure net bytes failure

-- why these bytes give no network
pub data IsNetFailure : List ℕ → Failure → Type 0 where
  net_not_text : {bytes : List ℕ} {failure : Failure} → IsNotText source.Net bytes failure → IsNetFailure bytes failure
  net_refused : {bytes : List ℕ} {failure : Failure} → IsNetTextFailure bytes failure → IsNetFailure bytes failure

-- why they give no inputs for the network
pub data IsInputsFailure : Net → List ℕ → Failure → Type 0 where
  inputs_not_text : {net : Net} {bytes : List ℕ} {failure : Failure} → IsNotText source.Inputs bytes failure
      → IsInputsFailure net bytes failure
  inputs_refused : {net : Net} {bytes : List ℕ} {failure : Failure} → IsInputsTextFailure net bytes failure
      → IsInputsFailure net bytes failure

-- this text is no script for so many nodes
pub data IsScriptTextFailure : ℕ → List ℕ → Failure → Type 0 where
  bad_script : {nodes : ℕ} {bytes : List ℕ} {failure : Failure} (fault : ScriptFault) → IsScriptFault nodes bytes fault
      → failure ≡ script_failure_of fault → IsScriptTextFailure nodes bytes failure

-- why these bytes give no script for so many nodes
pub data IsScriptFailure : ℕ → List ℕ → Failure → Type 0 where
  script_not_text : {nodes : ℕ} {bytes : List ℕ} {failure : Failure} → IsNotText source.Script bytes failure
      → IsScriptFailure nodes bytes failure
  script_refused : {nodes : ℕ} {bytes : List ℕ} {failure : Failure} → IsScriptTextFailure nodes bytes failure
      → IsScriptFailure nodes bytes failure
