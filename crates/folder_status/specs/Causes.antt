-- Why nothing is told of a folder, by what stands in the host's log.
use Rattle.std.specs.Prelude.{◌≡◌, ◌⊎◌, ℕ, ℤ, List, Some, Ok, Err, codes, IsUtf8, slice_get}
use Rattle.host.specs.Requests.{Request, Has, Read}
use Rattle.net_check.specs.declared.fault.NetFault.{NetFault}
use Rattle.net_check.specs.declared.fault.NetFault.TheVariants as net_fault
use Rattle.net_text.specs.declared.fault.TextFault.{TextFault}
use Rattle.net_text.specs.declared.fault.TextFault.TheVariants as text_fault
use Rattle.host.specs.declared.fault.HostFault.{HostFault}
use Rattle.host.specs.declared.fault.HostFault.TheVariants as host
use Rattle.output_file.specs.Lines.{HasBadLine}
use Rattle.protocol.specs.Node.Common.{Net, network_of}
use Rattle.protocol.specs.World.Released.{IsStreamOf}
use Rattle.folder_status.specs.Files.{inputs_path, IsOwnFile, items_path, net_path}
use Rattle.folder_status.specs.Texts.{IsTextOfInputs, IsTextOfNet}
use Rattle.folder_status.specs.Kept.{IsNetRead, IsRead}
use Rattle.folder_status.specs.declared.fault.StatusFault.{StatusFault}
use Rattle.folder_status.specs.declared.fault.StatusFault.TheVariants.{NoMemory, OtherState, ItemDiffers, Unread}
use Rattle.folder_status.specs.declared.kept.KeptOutput.{KeptOutput}

abbrev pub fault_number : StatusFault → ℕ
fault_number NoMemory = 1
fault_number OtherState = 80
fault_number ItemDiffers = 81
fault_number Unread = 82

-- the line that tells of it
abbrev pub fault_line : StatusFault → List ℕ
fault_line NoMemory = codes "no memory\n"
fault_line OtherState = codes "state: refusal 80\n"
fault_line ItemDiffers = codes "state: refusal 81\n"
fault_line Unread = codes "state: refusal 82\n"

-- what it comes to that the host doesn't read a file of a folder
abbrev pub of_unread : HostFault → StatusFault
of_unread host.NoMemory = NoMemory
of_unread host.NotThere = OtherState
of_unread host.NoFolder = OtherState
of_unread host.IsThere = Unread
of_unread host.InUse = Unread
of_unread host.NotEmpty = Unread
of_unread host.Other = Unread

-- The file isn't there, or what has the folder's name is no folder.
abbrev pub IsMissing : HostFault → Type 0
IsMissing fault = (fault ≡ host.NotThere) ⊎ (fault ≡ host.NoFolder)

-- the host failed otherwise
abbrev pub IsFailure : HostFault → Type 0
IsFailure fault = of_unread fault ≡ Unread

-- the text of no network, and none of the items for a network's inputs
abbrev pub IsNoNet : List ℕ → Type 0
IsNoNet bytes = (¬ (IsUtf8 bytes)) ⊎ (¬ (IsTextOfNet bytes))

abbrev pub AreNoInputs : Net → List ℕ → Type 0
AreNoInputs net bytes = (¬ (IsUtf8 bytes)) ⊎ (¬ (IsTextOfInputs net bytes))

-- what a fault of a text comes to
abbrev pub of_text_fault : TextFault → StatusFault
of_text_fault text_fault.NoMemory = NoMemory
of_text_fault (text_fault.BadToken line) = OtherState
of_text_fault (text_fault.Unexpected line) = OtherState
of_text_fault (text_fault.NumberRange line) = OtherState
of_text_fault (text_fault.TooLong line) = OtherState

abbrev pub of_net_fault : NetFault → StatusFault
of_net_fault net_fault.NoMemory = NoMemory
of_net_fault net_fault.MissingInput = OtherState
of_net_fault (net_fault.TwiceNamed line) = OtherState
of_net_fault (net_fault.UnknownName line) = OtherState
of_net_fault (net_fault.TwoProducers line) = OtherState
of_net_fault (net_fault.TwoConsumers line) = OtherState
of_net_fault (net_fault.LoopWithoutGet line) = OtherState
of_net_fault (net_fault.Limit line) = OtherState
of_net_fault (net_fault.NoProducer line) = OtherState
of_net_fault (net_fault.NoConsumer line) = OtherState

-- a text isn't what it has to be, or memory is missing
abbrev pub IsTextCause : Type 0 → StatusFault → Type 0
IsTextCause P fault = (fault ≡ NoMemory) ⊎ ((fault ≡ OtherState) × P)

-- What has the folder's name isn't the folder of a run, or is damaged.
pub data IsOther (folder : List ℕ) (e : List Request) : Type 0 where
  -- there is no folder, or a file of it isn't there
  missing : (path : List ℕ) (fault : HostFault) → IsOwnFile folder path → Has (Read path (Err fault)) e → IsMissing fault → IsOther folder e
  no_net : (bytes : List ℕ) → Has (Read (net_path folder) (Ok bytes)) e → IsNoNet bytes → IsOther folder e
  no_inputs : (bytes : List ℕ) (net : Net) → IsNetRead folder net e → Has (Read (inputs_path folder) (Ok bytes)) e → AreNoInputs net bytes
      → IsOther folder e
  -- a line of an output's file is no item's
  bad_line : (name bytes : List ℕ) (line : ℕ) → Has (Read (items_path folder name) (Ok bytes)) e → HasBadLine bytes line → IsOther folder e

-- bytes of which no items are read: a line is no item's, or memory is missing
abbrev pub IsUnreadable : List ℕ → StatusFault → Type 0
IsUnreadable bytes fault = (fault ≡ NoMemory) ⊎ ((fault ≡ OtherState) × ((line : ℕ) × HasBadLine bytes line))

-- A file of it was not read, though it may be there.
pub record IsUnread (folder : List ℕ) (e : List Request) : Type 0 where
  pub path : List ℕ
  pub fault : HostFault
  pub own : IsOwnFile folder path
  pub asked : Has (Read path (Err fault)) e
  pub failure : IsFailure fault

-- The folder was read, and the items of one of its outputs' files begin that channel's history in no approximation.
pub record HasOtherItem (folder : List ℕ) (e : List Request) : Type 0 where
  pub net : Net
  pub inputs : List (List ℤ)
  pub outputs : List KeptOutput
  pub output : KeptOutput
  pub place : ℕ
  pub read : IsRead folder e net inputs outputs
  pub there : slice_get outputs place ≡ Some output
  pub other : ¬ (IsStreamOf (network_of net.program) inputs output.channel output.items.items)

-- What stands in the log where nothing is told. For want of memory nothing can be said.
abbrev pub IsCaused : List ℕ → List Request → StatusFault → Type 0
IsCaused folder e NoMemory = Unit {0}
IsCaused folder e OtherState = IsOther folder e
IsCaused folder e ItemDiffers = HasOtherItem folder e
IsCaused folder e Unread = IsUnread folder e
