-- What the texts of a network, of its inputs and of a failure script stand for, and why one is refused.
use Rattle.std.specs.Prelude.{◌≡◌, ℕ, suc, ℤ, List, map}
use Rattle.net_text.specs.Grammar.{IsTextOf}
use Rattle.net_text.specs.InputLines.{IsInputsText, IsInputsFault}
use Rattle.net_text.specs.Texts.{IsParseFault}
use Rattle.net_text.specs.Names.{NameTree}
use Rattle.net_text.specs.Trees.{DeclarationTree, InputTree}
use Rattle.net_text.specs.declared.fault.TextFault.{TextFault}
use Rattle.net_check.specs.Binding.{Binds, HasInputFault}
use Rattle.net_check.specs.NetFaults.{HasFault}
use Rattle.net_check.specs.Resolution.{Resolves}
use Rattle.protocol.specs.Node.Common.{Network, network_of, IsValid, Net}
use Rattle.net_check.specs.declared.fault.NetFault.{NetFault}
use Rattle.fail_script.specs.Lines.{IsScript, IsScriptFault}
use Rattle.fail_script.specs.declared.act.ScriptLine.{ScriptLine}
use Rattle.fail_script.specs.declared.fault.ScriptFault.{ScriptFault}
use Rattle.replay.specs.declared.kept.ScriptedEvent.{ScriptedEvent}
use Rattle.cobaltmidge.specs.Errors.{net_text_error, net_error, inputs_text_error, inputs_error, script_error}
use Rattle.cobaltmidge.specs.Scripts.{scripted_of}
use Rattle.cobaltmidge.specs.declared.error.Error.{Error}

-- the network that this text describes
pub record IsNetOf (bytes : List ℕ) (net : Net) : Type 0 where
  pub tree : List DeclarationTree
  pub text : IsTextOf tree bytes
  pub resolved : Resolves tree net.channel_names.items net.process_names.items (network_of net.program)

-- the items that this text gives the network's inputs
pub record AreInputsOf (bytes : List ℕ) (net : Net) (inputs : List (List ℤ)) : Type 0 where
  pub lines : List InputTree
  pub text : IsInputsText bytes lines
  pub bound : Binds net.channel_names.items (network_of net.program) lines inputs

-- this text describes a valid network
pub record IsTextOfNet (bytes : List ℕ) : Type 0 where
  pub tree : List DeclarationTree
  pub channels : List NameTree
  pub processes : List NameTree
  pub network : Network
  pub text : IsTextOf tree bytes
  pub resolved : Resolves tree channels processes network
  pub valid : IsValid network

-- this text gives the network's inputs their items
pub record IsTextOfInputs (net : Net) (bytes : List ℕ) : Type 0 where
  pub lines : List InputTree
  pub lists : List (List ℤ)
  pub text : IsInputsText bytes lines
  pub bound : Binds net.channel_names.items (network_of net.program) lines lists

-- this text is a script for so many nodes, of these events
pub record IsScriptOf (nodes : ℕ) (bytes : List ℕ) (events : List ScriptedEvent) : Type 0 where
  pub lines : List ScriptLine
  pub text : IsScript nodes bytes lines
  pub same : events ≡ map scripted_of lines

-- why the text of a network is refused: it isn't in the grammar, or its tree has a fault
pub data IsNetError : List ℕ → Error → Type 0 where
  bad_text : {bytes : List ℕ} {error : Error} (fault : TextFault) → IsParseFault bytes fault
      → error ≡ net_text_error fault → IsNetError bytes error
  bad_net : {bytes : List ℕ} {error : Error} (tree : List DeclarationTree) (fault : NetFault) → IsTextOf tree bytes
      → HasFault tree fault → error ≡ net_error fault → IsNetError bytes error

-- why the text of a network's inputs is refused: it isn't one of inputs' lines, or its lines have a fault for the
-- network
pub data IsInputsError : Net → List ℕ → Error → Type 0 where
  bad_lines : {net : Net} {bytes : List ℕ} {error : Error} (fault : TextFault) → IsInputsFault bytes fault
      → error ≡ inputs_text_error fault → IsInputsError net bytes error
  bad_inputs : {net : Net} {bytes : List ℕ} {error : Error} (lines : List InputTree) (fault : NetFault)
      → IsInputsText bytes lines → HasInputFault net.channel_names.items (network_of net.program) lines fault
      → error ≡ inputs_error fault → IsInputsError net bytes error

-- a list of items by an input's name, behind so many other lists, as the line of a text
abbrev pub given_line : ℕ → List ℕ → List ℤ → InputTree
given_line before name items = record { name = record { text = name; line = suc before }; items = items }

-- lists of items, as such lines, have a fault for the network
pub data IsItemsError : Net → List InputTree → Error → Type 0 where
  bad_items : {net : Net} {lines : List InputTree} {error : Error} (fault : NetFault)
      → HasInputFault net.channel_names.items (network_of net.program) lines fault → error ≡ inputs_error fault
      → IsItemsError net lines error

-- why the text of a script is refused: it is none for so many nodes
pub data IsScriptError : ℕ → List ℕ → Error → Type 0 where
  bad_script : {nodes : ℕ} {bytes : List ℕ} {error : Error} (fault : ScriptFault) → IsScriptFault nodes bytes fault
      → error ≡ script_error fault → IsScriptError nodes bytes error
