-- Streams that are kept in the files of a folder, and why they aren't, by what stands in the host's log.
use Rattle.std.specs.Prelude.{◌≡◌, ℕ, ℤ, Bool, true, List, [], ◌∷◌, ◌++◌, Option, Some, None, Ok, Err, IsUtf8, length}
use Rattle.host.specs.declared.fault.HostFault.{HostFault}
use Rattle.host.specs.LineRequests as lines
use Rattle.host.specs.LineRequests.{has_failed}
use Rattle.host.specs.Requests.{Request, Has, Opened, Read, Used}
use Rattle.output_file.specs.Lines.{HoldsLines}
use Rattle.run_files.specs.Causes.{IsCaused, IsRead}
use Rattle.run_files.specs.Keeping.{IsKept}
use Rattle.run_files.specs.Opening.{paths_in}
use Rattle.run_files.specs.Syncing.{AreSyncedIf}
use Rattle.run_files.specs.Wanted.{Wanted}
use Rattle.run_files.specs.declared.fault.FilesFault.{FilesFault}
use Rattle.protocol.specs.Node.Common.{Net}
use Rattle.cobaltmidge.specs.Accepting.{IsAccepted}
use Rattle.cobaltmidge.specs.Errors.{IsRunError}
use Rattle.cobaltmidge.specs.Texts.{IsInputsError, IsNetError, IsNetOf}
use Rattle.cobaltmidge.specs.declared.error.Error.{Error}
use Rattle.cobaltmidge.specs.declared.kept_outlets.KeepFault.{KeepFault}
use Rattle.cobaltmidge.specs.declared.kept_outlets.KeepFault.TheVariants.{NoMemory, Astray, ItemDiffers, PutFailed}
use Rattle.cobaltmidge.specs.declared.state_error.StateFault.{StateFault}
use Rattle.cobaltmidge.specs.declared.state_error.StateFault.TheVariants.{Unread, NotText, Refused, Files, Kept}

-- each output's stream is kept in its own file of the folder; each put to it waits for the disk, where that is asked for (`sync`)
abbrev pub AreKeptIn : Bool → List ℕ → List (List ℕ) → List Request → List (List ℤ) → Type 0
AreKeptIn sync folder names e [] = Unit {0}
AreKeptIn sync folder [] e (stream ∷ streams) = ⊥
AreKeptIn sync folder (name ∷ names) e (stream ∷ streams) = IsKept sync folder name stream e × AreKeptIn sync folder names e streams

-- Where a folder is asked for, they are kept there; and where that is asked for the folder, its texts and the files as they were found stand on
-- the disk.
abbrev pub AreKept : Bool → Option (List ℕ) → List (List ℕ) → List Request → List (List ℤ) → Type 0
AreKept sync None names e streams = Unit {0}
AreKept sync (Some folder) names e streams =
    AreKeptIn sync folder names e streams × AreSyncedIf sync (paths_in folder names ++ folder ∷ []) e

-- The file of an output had so many items when it was opened: it held their lines, and behind them at most a line that was cut off.
pub record HeldSoMany (sync : Bool) (folder name : List ℕ) (e : List Request) (count : ℕ) : Type 0 where
  pub bytes : List ℕ
  pub opened : Has (Opened folder name sync (Ok bytes)) e
  pub items : List ℤ
  pub tail : List ℕ
  pub lines : HoldsLines bytes items tail
  pub counted : count ≡ length items

-- so had each of these files, in order
abbrev pub AllHeld : Bool → List ℕ → List (List ℕ) → List Request → List ℕ → Type 0
AllHeld sync folder [] e [] = Unit {0}
AllHeld sync folder [] e (count ∷ counts) = ⊥
AllHeld sync folder (name ∷ names) e [] = ⊥
AllHeld sync folder (name ∷ names) e (count ∷ counts) = HeldSoMany sync folder name e count × AllHeld sync folder names e counts

-- A file of the folder failed: an item of the run differs from one that it held, or a put to it did. For want of memory, and where the files
-- came back otherwise than they were opened, nothing is said.
abbrev pub HasKeepFault : Wanted → List Request → KeepFault → Type 0
HasKeepFault o e NoMemory = Unit {0}
HasKeepFault o e Astray = Unit {0}
HasKeepFault o e ItemDiffers = (folder name bytes : List ℕ) × Has (Opened folder name o.sync (Ok bytes)) e
HasKeepFault o e PutFailed = (name : List ℕ) × (asked : List lines.Request) × Has (Used name asked) e × (has_failed asked ≡ true)

-- Why a run comes to no end of which what left is kept: its files were refused, one of them failed, or the run itself did.
abbrev pub IsStateCause : Bool → Wanted → List Request → StateFault → Type 0
IsStateCause counted o e (Unread fault) = ⊥
IsStateCause counted o e NotText = ⊥
IsStateCause counted o e (Refused error) = IsRunError counted error
IsStateCause counted o e (Files fault) = IsCaused IsAccepted o e fault
IsStateCause counted o e (Kept fault) = HasKeepFault o e fault

-- a text that isn't UTF-8, or is refused
abbrev pub IsTextStop : (Error → Type 0) → List ℕ → StateFault → Type 0
IsTextStop refused bytes (Unread fault) = ⊥
IsTextStop refused bytes NotText = ¬ (IsUtf8 bytes)
IsTextStop refused bytes (Refused error) = refused error
IsTextStop refused bytes (Files fault) = ⊥
IsTextStop refused bytes (Kept fault) = ⊥

abbrev pub IsNetStop : List ℕ → StateFault → Type 0
IsNetStop bytes fault = IsTextStop (IsNetError bytes) bytes fault

abbrev pub IsInputsStop : Net → List ℕ → StateFault → Type 0
IsInputsStop net bytes fault = IsTextStop (IsInputsError net bytes) bytes fault

-- Why the texts of a run aren't read: the host didn't read one; one was read that is no text of a network, or of inputs for the network of the
-- text that was read; or the name of the history isn't apart from theirs.
pub data IsTextsCause : Wanted → List Request → StateFault → Type 0 where
  unread : {o : Wanted} {e : List Request} (path : List ℕ) (fault : HostFault) → IsRead o path → Has (Read path (Err fault)) e
      → IsTextsCause o e (Unread fault)
  net_stops : {o : Wanted} {e : List Request} {fault : StateFault} (bytes : List ℕ) → Has (Read o.net (Ok bytes)) e → IsNetStop bytes fault
      → IsTextsCause o e fault
  inputs_stop : {o : Wanted} {e : List Request} {fault : StateFault} (net_bytes bytes : List ℕ) (net : Net) → Has (Read o.net (Ok net_bytes)) e
      → IsNetOf net_bytes net → Has (Read o.inputs (Ok bytes)) e → IsInputsStop net bytes fault → IsTextsCause o e fault
  files_refused : {o : Wanted} {e : List Request} (fault : FilesFault) → IsCaused IsAccepted o e fault → IsTextsCause o e (Files fault)
