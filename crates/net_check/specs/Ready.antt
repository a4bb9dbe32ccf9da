-- What a process has to keep to before its statements are looked at, and how far a text has been read.
use Rattle.std.specs.Prelude.{◌≡◌, ℕ, ◌<◌, ◌≤◌, length, List, ◌∷◌, ◌++◌, slice_get, Some, None, true}
use Rattle.net_text.specs.Trees.{LoopTree, ProcessTree, DeclarationTree}
use Rattle.net_check.specs.Texts.{is_passing_text, process_units_text, process_past_line}
use Rattle.net_text.specs.declared.tree.ChannelText.{ChannelText}
use Rattle.net_check.specs.declared.fault.NetFault.{NetFault}
use Rattle.net_check.specs.Resolution.{AllDifferent, channels_of, processes_of, channel_names, process_names}
use Rattle.net_check.specs.Resolution.{variable_names}
use Rattle.net_check.specs.NetFaults.{HasFault}
use Rattle.kahn_net.specs.declared.limits.TheConstants.{MAX_CHANNELS, MAX_NODES, MAX_PROCESSES, MAX_UNITS}
use Rattle.kahn_net.specs.declared.limits.TheConstants.{MAX_VARIABLES}

-- a process on a node up to 15 with at most 64 variables, all different
pub record IsReady (process : ProcessTree) : Type 0 where
  pub node : process.node.number < MAX_NODES
  pub few : length process.variables ≤ MAX_VARIABLES
  pub different : AllDifferent (variable_names process.variables)

-- a process of at most 4,096 units, whose repetitions are within their limits, and whose loop passes
pub record IsFit (process : ProcessTree) : Type 0 where
  pub units : process_units_text process ≤ MAX_UNITS
  pub repeats : process_past_line process ≡ None
  pub passes : (repeated : LoopTree) → process.repeated ≡ Some repeated → is_passing_text repeated.body ≡ true

-- the channels and processes of a text, as far as it has been read
pub record AreDeclared (channels : List ChannelText) (processes : List ProcessTree) : Type 0 where
  pub few_channels : length channels ≤ MAX_CHANNELS
  pub few_processes : length processes ≤ MAX_PROCESSES
  pub channels_differ : AllDifferent (channel_names channels)
  pub processes_differ : AllDifferent (process_names processes)
  pub ready : (p : ℕ) (process : ProcessTree) → slice_get processes p ≡ Some process → IsReady process

-- each text whose channels begin so has the fault
abbrev pub FaultAtChannel : List ChannelText → ChannelText → NetFault → Type 0
FaultAtChannel front channel fault =
    (text : List DeclarationTree) (more : List ChannelText) → channels_of text ≡ front ++ channel ∷ more
    → HasFault text fault

-- each text whose processes begin so has the fault
abbrev pub FaultAtProcess : List ProcessTree → ProcessTree → NetFault → Type 0
FaultAtProcess front process fault =
    (text : List DeclarationTree) (more : List ProcessTree) → processes_of text ≡ front ++ process ∷ more
    → HasFault text fault

-- each text that has this process has the fault
abbrev pub FaultOfProcess : ProcessTree → NetFault → Type 0
FaultOfProcess process fault =
    (text : List DeclarationTree) (p : ℕ) → slice_get (processes_of text) p ≡ Some process → HasFault text fault

-- each text with these processes has the fault
abbrev pub FaultOfProcesses : List ProcessTree → NetFault → Type 0
FaultOfProcesses processes fault = (text : List DeclarationTree) → processes_of text ≡ processes → HasFault text fault
