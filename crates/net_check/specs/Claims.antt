-- Which process holds which end of a channel, as far as the uses of a text have been read.
use Rattle.std.specs.Prelude.{◌≡◌, ◌≢◌, ℕ, List, length, slice_get, slice_set, Some, Bool, false, IsTrue}
use Rattle.net_text.specs.Names.{NameTree}
use Rattle.net_text.specs.declared.tree.ChannelText.{ChannelText}
use Rattle.net_text.specs.declared.tree.Role.{Role}
use Rattle.net_text.specs.declared.tree.Role.TheVariants.{Input, Output}
use Rattle.net_check.specs.declared.fault.NetFault.{NetFault}
use Rattle.net_check.specs.declared.fault.NetFault.TheVariants.{NoMemory, TwiceNamed, UnknownName, TwoProducers}
use Rattle.net_check.specs.declared.fault.NetFault.TheVariants.{TwoConsumers, LoopWithoutGet, Limit, NoProducer}
use Rattle.net_check.specs.declared.fault.NetFault.TheVariants.{NoConsumer, MissingInput}
use Rattle.kahn_net.specs.declared.program.Port.{Port}
use Rattle.kahn_net.specs.declared.program.Port.TheVariants.{Outside, Process}
use Rattle.kahn_net.specs.Common.{Code, code_puts, code_gets}
use Rattle.net_check.specs.Uses.{Use, GetFrom, PutOn, Has}
use Rattle.net_check.specs.NetFaults.{HasFault, name_of, space_of}
use Rattle.net_check.specs.Resolution.{channel_names, channels_of, processes_of, Reads, ResolvesProcess}
use Rattle.net_text.specs.Trees.{DeclarationTree, ProcessTree}

abbrev pub AreOutside : List Port → Type 0
AreOutside ports = (c : ℕ) (port : Port) → slice_get ports c ≡ Some port → port ≡ Outside

-- no other process is at this end
abbrev pub IsFree : ℕ → Port → Type 0
IsFree p Outside = Unit {0}
IsFree p (Process q) = q ≡ p

-- another process is at this end of the channel
pub record IsTaken (p c : ℕ) (ports : List Port) : Type 0 where
  pub q : ℕ
  pub here : slice_get ports c ≡ Some (Process q)
  pub other : q ≢ p

-- process p takes this end of the channel
pub record Takes (p c : ℕ) (old new : List Port) : Type 0 where
  pub free : (port : Port) → slice_get old c ≡ Some port → IsFree p port
  pub after : new ≡ slice_set old c (Process p)

-- process p takes this end of the channels that it uses so, none of which stands outside there
pub record Claims (channels : List ChannelText) (role : Role) (p : ℕ) (uses : ℕ → Bool) (old new : List Port) : Type 0
  where
    pub count : length new ≡ length old
    pub claimed : (c : ℕ) → IsTrue (uses c) → slice_get new c ≡ Some (Process p)
    pub kept : (c : ℕ) → uses c ≡ false → slice_get new c ≡ slice_get old c
    pub free : (c : ℕ) (port : Port) → IsTrue (uses c) → slice_get old c ≡ Some port → IsFree p port
    pub allowed : (c : ℕ) (channel : ChannelText) → IsTrue (uses c) → slice_get channels c ≡ Some channel
        → channel.role ≢ role

-- at each end stands the one process of these that uses the channel so
pub record Joined (channels : List ChannelText) (role : Role) (uses : ℕ → Code → Bool) (codes : List Code)
    (ports : List Port) : Type 0 where
  pub count : length ports ≡ length channels
  pub there : (c q : ℕ) (code : Code) → slice_get codes q ≡ Some code → IsTrue (uses c code)
      → slice_get ports c ≡ Some (Process q)
  pub back : (c q : ℕ) → slice_get ports c ≡ Some (Process q)
      → (code : Code) × (slice_get codes q ≡ Some code) × IsTrue (uses c code)
  pub allowed : (c q : ℕ) (channel : ChannelText) → slice_get ports c ≡ Some (Process q)
      → slice_get channels c ≡ Some channel → channel.role ≢ role

-- these processes of a text are resolved to these codes, and so the ends of the channels are joined
pub record AreResolved (channels : List ChannelText) (processes : List ProcessTree) (codes : List Code)
    (producers consumers : List Port) : Type 0 where
  pub count : length codes ≡ length processes
  pub codes_of : (p : ℕ) (process : ProcessTree) (code : Code) → slice_get processes p ≡ Some process
      → slice_get codes p ≡ Some code → ResolvesProcess (channel_names channels) process code
  pub producers_of : Joined channels Input code_puts codes producers
  pub consumers_of : Joined channels Output code_gets codes consumers

-- each text with these channels and processes has the fault
abbrev pub FaultOfText : List ChannelText → List ProcessTree → NetFault → Type 0
FaultOfText channels processes fault =
    (text : List DeclarationTree) → channels_of text ≡ channels → processes_of text ≡ processes → HasFault text fault

-- one of these uses names nothing
pub record IsUnknown (channels variables : List NameTree) (uses : List Use) (line : ℕ) : Type 0 where
  pub use' : Use
  pub used : Has uses use'
  pub undeclared : (i : ℕ) → Reads (space_of channels variables use') i (name_of use').text → ⊥
  pub at : (name_of use').line ≡ line

-- one of these uses is of a channel whose end stands outside, or is another process's
pub data IsRefused : List ChannelText → Role → (NameTree → Use) → ℕ → List Port → List Use → ℕ → Type 0 where
  stands_outside : {channels : List ChannelText} {role : Role} {use' : NameTree → Use} {p : ℕ} {ports : List Port}
      {uses : List Use} {line : ℕ} (name : NameTree) (c : ℕ) (channel : ChannelText) → Has uses (use' name)
      → name.line ≡ line → slice_get channels c ≡ Some channel → channel.name.text ≡ name.text → channel.role ≡ role
      → IsRefused channels role use' p ports uses line
  is_taken : {channels : List ChannelText} {role : Role} {use' : NameTree → Use} {p : ℕ} {ports : List Port}
      {uses : List Use} {line : ℕ} (name : NameTree) (c : ℕ) → Has uses (use' name) → name.line ≡ line
      → Reads (channel_names channels) c name.text → IsTaken p c ports → IsRefused channels role use' p ports uses line

-- process p, with these variables, uses something so that this is a fault
abbrev pub UseFault : List ChannelText → List NameTree → ℕ → List Port → List Port → List Use → NetFault → Type 0
UseFault channels variables p producers consumers uses NoMemory = Unit {0}
UseFault channels variables p producers consumers uses (UnknownName line) =
    IsUnknown (channel_names channels) variables uses line
UseFault channels variables p producers consumers uses (TwoProducers line) =
    IsRefused channels Input PutOn p producers uses line
UseFault channels variables p producers consumers uses (TwoConsumers line) =
    IsRefused channels Output GetFrom p consumers uses line
UseFault channels variables p producers consumers uses (TwiceNamed line) = ⊥
UseFault channels variables p producers consumers uses (LoopWithoutGet line) = ⊥
UseFault channels variables p producers consumers uses (Limit line) = ⊥
UseFault channels variables p producers consumers uses (NoProducer line) = ⊥
UseFault channels variables p producers consumers uses (NoConsumer line) = ⊥
UseFault channels variables p producers consumers uses MissingInput = ⊥

-- the same where names alone can be at fault
abbrev pub NameFault : List NameTree → List NameTree → List Use → NetFault → Type 0
NameFault channels variables uses NoMemory = Unit {0}
NameFault channels variables uses (UnknownName line) = IsUnknown channels variables uses line
NameFault channels variables uses _ = ⊥
