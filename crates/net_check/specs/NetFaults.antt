-- What is wrong with a text where a fault is found: a clause for each, with the line on which it stands.
use Rattle.std.specs.Prelude.{◌≡◌, ◌≢◌, ℕ, ◌<◌, ◌≤◌, List, slice_get, Some, false}
use Rattle.net_text.specs.Names.{NameTree}
use Rattle.net_text.specs.Trees.{LoopTree, ProcessTree, DeclarationTree}
use Rattle.net_text.specs.declared.tree.ChannelText.{ChannelText}
use Rattle.net_text.specs.declared.tree.VariableText.{VariableText}
use Rattle.net_text.specs.declared.tree.Role.{Role}
use Rattle.net_text.specs.declared.tree.Role.TheVariants.{Input, Output}
use Rattle.net_check.specs.declared.fault.NetFault.{NetFault}
use Rattle.net_check.specs.declared.fault.NetFault.TheVariants.{NoMemory, TwiceNamed, UnknownName, TwoProducers}
use Rattle.net_check.specs.declared.fault.NetFault.TheVariants.{TwoConsumers, LoopWithoutGet, Limit, NoProducer}
use Rattle.net_check.specs.declared.fault.NetFault.TheVariants.{NoConsumer, MissingInput}
use Rattle.net_check.specs.Uses.{Use, OfVariable, GetFrom, PutOn, process_uses, Has}
use Rattle.net_check.specs.Resolution.{channels_of, processes_of, channel_names, process_names, variable_names, Reads}
use Rattle.net_check.specs.Texts.{is_passing_text, process_units_text, process_past_line}
use Rattle.kahn_net.specs.declared.limits.TheConstants.{MAX_CHANNELS, MAX_NODES, MAX_PROCESSES, MAX_UNITS}
use Rattle.kahn_net.specs.declared.limits.TheConstants.{MAX_VARIABLES}

-- among these names one stands on this line that reads like one before it
pub record SecondUse (names : List NameTree) (line : ℕ) : Type 0 where
  pub first : ℕ
  pub second : ℕ
  pub name : NameTree
  pub order : first < second
  pub before : Reads names first name.text
  pub here : slice_get names second ≡ Some name
  pub at : name.line ≡ line

-- 10: two channels, two processes or two variables of one process
pub data HasTwiceNamed : List DeclarationTree → ℕ → Type 0 where
  two_channels : {text : List DeclarationTree} {line : ℕ} → SecondUse (channel_names (channels_of text)) line
      → HasTwiceNamed text line
  two_processes : {text : List DeclarationTree} {line : ℕ} → SecondUse (process_names (processes_of text)) line
      → HasTwiceNamed text line
  two_variables : {text : List DeclarationTree} {line : ℕ} (p : ℕ) (process : ProcessTree)
      → slice_get (processes_of text) p ≡ Some process → SecondUse (variable_names process.variables) line
      → HasTwiceNamed text line

-- what a use names, and among which names that is declared
abbrev pub name_of : Use → NameTree
name_of (OfVariable name) = name
name_of (GetFrom name) = name
name_of (PutOn name) = name

abbrev pub space_of : List NameTree → List NameTree → Use → List NameTree
space_of channels variables (OfVariable name) = variables
space_of channels variables (GetFrom name) = channels
space_of channels variables (PutOn name) = channels

-- 11: a use of a name that nothing declares in its space
pub record HasUnknownName (text : List DeclarationTree) (line : ℕ) : Type 0 where
  pub p : ℕ
  pub process : ProcessTree
  pub here : slice_get (processes_of text) p ≡ Some process
  pub use' : Use
  pub used : Has (process_uses process) use'
  pub undeclared : (i : ℕ)
      → Reads (space_of (channel_names (channels_of text)) (variable_names process.variables) use') i
      (name_of use').text → ⊥
  pub at : (name_of use').line ≡ line

-- 12, with puts and inputs, and 13, with gets and outputs: a use of a channel whose end stands outside, or that another
-- process uses so too
pub data HasTwoUsers : Role → (NameTree → Use) → List DeclarationTree → ℕ → Type 0 where
  outside_too : {role : Role} {use' : NameTree → Use} {text : List DeclarationTree} {line : ℕ} (p : ℕ)
      (process : ProcessTree) (name : NameTree) (c : ℕ) (channel : ChannelText)
      → slice_get (processes_of text) p ≡ Some process → Has (process_uses process) (use' name) → name.line ≡ line
      → slice_get (channels_of text) c ≡ Some channel → channel.name.text ≡ name.text → channel.role ≡ role
      → HasTwoUsers role use' text line
  another_too : {role : Role} {use' : NameTree → Use} {text : List DeclarationTree} {line : ℕ} (p : ℕ)
      (process : ProcessTree) (name : NameTree) (c : ℕ) (q : ℕ) (other : ProcessTree) (like : NameTree)
      → slice_get (processes_of text) p ≡ Some process → Has (process_uses process) (use' name) → name.line ≡ line
      → Reads (channel_names (channels_of text)) c name.text → q ≢ p → slice_get (processes_of text) q ≡ Some other
      → Has (process_uses other) (use' like) → like.text ≡ name.text → HasTwoUsers role use' text line

-- 14: a loop whose body doesn't pass
pub record HasLoopWithoutGet (text : List DeclarationTree) (line : ℕ) : Type 0 where
  pub p : ℕ
  pub process : ProcessTree
  pub repeated : LoopTree
  pub here : slice_get (processes_of text) p ≡ Some process
  pub loops : process.repeated ≡ Some repeated
  pub idle : is_passing_text repeated.body ≡ false
  pub at : repeated.line ≡ line

-- 15: a channel, a process or a variable of a process past their limits, a node above 15, a process of too many units, a
-- repetition past its limits
pub data HasPastLimit : List DeclarationTree → ℕ → Type 0 where
  many_channels : {text : List DeclarationTree} {line : ℕ} (channel : ChannelText)
      → slice_get (channels_of text) MAX_CHANNELS ≡ Some channel → channel.line ≡ line → HasPastLimit text line
  many_processes : {text : List DeclarationTree} {line : ℕ} (process : ProcessTree)
      → slice_get (processes_of text) MAX_PROCESSES ≡ Some process → process.line ≡ line → HasPastLimit text line
  many_variables : {text : List DeclarationTree} {line : ℕ} (p : ℕ) (process : ProcessTree) (variable : VariableText)
      → slice_get (processes_of text) p ≡ Some process → slice_get process.variables MAX_VARIABLES ≡ Some variable
      → variable.line ≡ line → HasPastLimit text line
  high_node : {text : List DeclarationTree} {line : ℕ} (p : ℕ) (process : ProcessTree)
      → slice_get (processes_of text) p ≡ Some process → MAX_NODES ≤ process.node.number → process.node.line ≡ line
      → HasPastLimit text line
  many_units : {text : List DeclarationTree} {line : ℕ} (p : ℕ) (process : ProcessTree)
      → slice_get (processes_of text) p ≡ Some process → MAX_UNITS < process_units_text process → process.line ≡ line
      → HasPastLimit text line
  many_times : {text : List DeclarationTree} {line : ℕ} (p : ℕ) (process : ProcessTree)
      → slice_get (processes_of text) p ≡ Some process → process_past_line process ≡ Some line
      → HasPastLimit text line

-- 16, with puts and inputs, and 17, with gets and outputs: a channel whose end stands inside, and that no process uses
-- so
pub record HasNoUser (role : Role) (use' : NameTree → Use) (text : List DeclarationTree) (line : ℕ) : Type 0 where
  pub c : ℕ
  pub channel : ChannelText
  pub here : slice_get (channels_of text) c ≡ Some channel
  pub inside : channel.role ≢ role
  pub unused : (p : ℕ) (process : ProcessTree) (name : NameTree) → slice_get (processes_of text) p ≡ Some process
      → Has (process_uses process) (use' name) → name.text ≡ channel.name.text → ⊥
  pub at : channel.line ≡ line

-- the text has this fault, on its line; of want of memory the text says nothing
abbrev pub HasFault : List DeclarationTree → NetFault → Type 0
HasFault text NoMemory = Unit {0}
HasFault text (TwiceNamed line) = HasTwiceNamed text line
HasFault text (UnknownName line) = HasUnknownName text line
HasFault text (TwoProducers line) = HasTwoUsers Input PutOn text line
HasFault text (TwoConsumers line) = HasTwoUsers Output GetFrom text line
HasFault text (LoopWithoutGet line) = HasLoopWithoutGet text line
HasFault text (Limit line) = HasPastLimit text line
HasFault text (NoProducer line) = HasNoUser Input PutOn text line
HasFault text (NoConsumer line) = HasNoUser Output GetFrom text line
HasFault text MissingInput = ⊥
