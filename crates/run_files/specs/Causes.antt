-- Why the files of a run are refused, by what stands in the host's log.
use Rattle.std.specs.Fmt.{decimal}
use Rattle.std.specs.Prelude.{◌≡◌, ◌≢◌, ◌⊎◌, ◌≤◌, ℕ, zero, suc, Bool, true, List, ◌∷◌, ◌++◌, Some, Ok, Err, codes}
use Rattle.host.specs.Requests.{Request, Read, Looked, Placed, MadeFile, MadeFolder, OpenedDevice, Wrote, Synced, Renamed, RemovedFile, RemovedFolder}
use Rattle.host.specs.Requests.{Locked, Unlocked, Opened, Cut, Used, Said, Told, OpenedSource, Took, Has}
use Rattle.host.specs.declared.fault.HostFault.{HostFault}
use Rattle.host.specs.declared.fault.HostFault.TheVariants as host
use Rattle.host.specs.declared.host.Standing.TheVariants.{Folder}
use Rattle.output_file.specs.Lines.{HasBadLine}
use Rattle.run_files.specs.Places.{is_within}
use Rattle.run_files.specs.Rules.{AreRead, Given, grown_from}
use Rattle.run_files.specs.Wanted.{Wanted}
use Rattle.run_files.specs.declared.happened.TheConstants.{LAST_NAME}
use Rattle.run_files.specs.declared.fault.FilesFault.{FilesFault}
use Rattle.run_files.specs.declared.fault.FilesFault.TheVariants.{NoMemory, InUse, OtherState, Failed, Unwritten, Astray}

-- the answer to a name that is given, where something stands under that name already
abbrev pub IsTaken : HostFault → Type 0
IsTaken host.NotEmpty = Unit {0}
IsTaken host.IsThere = Unit {0}
IsTaken host.NoFolder = Unit {0}
IsTaken host.NoMemory = ⊥
IsTaken host.NotThere = ⊥
IsTaken host.InUse = ⊥
IsTaken host.Other = ⊥

-- the name of the folder's text of inputs
abbrev pub IsInputsName : Wanted → List ℕ → Type 0
IsInputsName o path = (folder : List ℕ) × (o.state ≡ Some folder) × (path ≡ folder ++ codes "/inputs")

-- a request about the folder or a file of it that the host didn't do, for another reason than that nothing stands there, that something
-- does, or that another run is at work
abbrev pub IsUndone : Wanted → Request → Type 0
IsUndone o (Read path (Err fault)) = fault ≢ host.NotThere
IsUndone o (Read path (Ok bytes)) = ⊥
IsUndone o (Looked path (Err fault)) = Unit {0}
IsUndone o (Looked path (Ok standing)) = ⊥
IsUndone o (Placed path (Err fault)) = o.state ≡ Some path
IsUndone o (Placed path (Ok place)) = ⊥
IsUndone o (MadeFile path (Err fault)) = Unit {0}
IsUndone o (MadeFile path (Ok done)) = ⊥
IsUndone o (MadeFolder path (Err fault)) = fault ≢ host.IsThere
IsUndone o (MadeFolder path (Ok done)) = ⊥
IsUndone o (OpenedDevice path answer) = ⊥
IsUndone o (Wrote path bytes (Err fault)) = Unit {0}
IsUndone o (Wrote path bytes (Ok done)) = ⊥
IsUndone o (Synced path (Err fault)) = Unit {0}
IsUndone o (Synced path (Ok done)) = ⊥
IsUndone o (Renamed from to (Err fault)) = ((o.state ≡ Some to) × ¬ (IsTaken fault)) ⊎ IsInputsName o to
IsUndone o (Renamed from to (Ok done)) = ⊥
IsUndone o (RemovedFile path answer) = ⊥
IsUndone o (RemovedFolder path answer) = ⊥
IsUndone o (Locked folder (Err fault)) = fault ≢ host.InUse
IsUndone o (Locked folder (Ok done)) = ⊥
IsUndone o (Unlocked folder) = ⊥
IsUndone o (Opened folder name waits (Err fault)) = fault ≢ host.NotThere
IsUndone o (Opened folder name waits (Ok bytes)) = ⊥
IsUndone o (Cut name len (Err fault)) = Unit {0}
IsUndone o (Cut name len (Ok done)) = ⊥
IsUndone o (Used name asked) = ⊥
IsUndone o (Said bytes answer) = ⊥
IsUndone o (Told bytes answer) = ⊥
IsUndone o (OpenedSource number path answer) = ⊥
IsUndone o (Took number answer) = ⊥

-- a request about the file of this name, into which what happens is to be written, that the host didn't do
abbrev pub IsUnwritten : List ℕ → Request → Type 0
IsUnwritten name (Placed path (Err fault)) = Unit {0}
IsUnwritten name (Placed path (Ok place)) = ⊥
IsUnwritten name (Looked path (Err fault)) = path ≡ name
IsUnwritten name (Looked path (Ok standing)) = ⊥
IsUnwritten name (MadeFile path (Err fault)) = fault ≢ host.IsThere
IsUnwritten name (MadeFile path (Ok done)) = ⊥
IsUnwritten name (OpenedDevice path (Err fault)) = path ≡ name
IsUnwritten name (OpenedDevice path (Ok done)) = ⊥
IsUnwritten name (Wrote path bytes (Err fault)) = Unit {0}
IsUnwritten name (Wrote path bytes (Ok done)) = ⊥
IsUnwritten name (Renamed from to (Err fault)) = to ≡ name
IsUnwritten name (Renamed from to (Ok done)) = ⊥
IsUnwritten name (Read path answer) = ⊥
IsUnwritten name (MadeFolder path answer) = ⊥
IsUnwritten name (Synced path answer) = ⊥
IsUnwritten name (RemovedFile path answer) = ⊥
IsUnwritten name (RemovedFolder path answer) = ⊥
IsUnwritten name (Locked folder answer) = ⊥
IsUnwritten name (Unlocked folder) = ⊥
IsUnwritten name (Opened folder file waits answer) = ⊥
IsUnwritten name (Cut file len answer) = ⊥
IsUnwritten name (Used file asked) = ⊥
IsUnwritten name (Said bytes answer) = ⊥
IsUnwritten name (Told bytes answer) = ⊥
IsUnwritten name (OpenedSource number path answer) = ⊥
IsUnwritten name (Took number answer) = ⊥

-- the name that is tried for a file or a folder that is made: `stem.ending` first, and then with a number
abbrev pub tried_name : List ℕ → List ℕ → ℕ → List ℕ
tried_name stem ending zero = stem ++ codes "." ++ ending
tried_name stem ending (suc nth) = stem ++ codes "." ++ ending ++ 46 ∷ decimal (suc nth)

-- under each name that is tried for a folder something stands
abbrev pub AreFoldersTaken : List Request → Type 0
AreFoldersTaken e = (stem : List ℕ)
    × ((nth : ℕ) → nth ≤ LAST_NAME → Has (MadeFolder (tried_name stem (codes "making") nth) (Err host.IsThere)) e)

-- under each name that is tried for the file into which what happens is written something stands
abbrev pub AreFilesTaken : List Request → Type 0
AreFilesTaken e = (stem : List ℕ)
    × ((nth : ℕ) → nth ≤ LAST_NAME → Has (MadeFile (tried_name stem (codes "new") nth) (Err host.IsThere)) e)

-- under each name that is tried for a text that is to take the place of the folder's something stands
abbrev pub AreTextsTaken : List Request → Type 0
AreTextsTaken e = (stem : List ℕ)
    × ((nth : ℕ) → nth ≤ LAST_NAME → Has (MadeFile (tried_name stem (codes "making") nth) (Err host.IsThere)) e)

-- such a request stands in the log
abbrev pub HasSuch : (Request → Type 0) → List Request → Type 0
HasSuch P e = (r : Request) × Has r e × P r

-- a text of the folder, and that of the run
pub data IsTextOf : Wanted → List ℕ → List ℕ → Type 0 where
  net : {o : Wanted} → IsTextOf o (codes "/net") o.net
  inputs : {o : Wanted} → IsTextOf o (codes "/inputs") o.inputs

-- What stands under the folder's name is no folder of this run's texts, or is damaged.
pub data IsOther (accepts : Given → Type 0) (o : Wanted) (folder : List ℕ) (e : List Request) : Type 0 where
  -- something that is no folder
  no_folder : Has (Looked (folder ++ codes "/net") (Err host.NoFolder)) e → IsOther accepts o folder e
  -- a folder without the file `net`, under whose name no new one could be put
  taken : (making : List ℕ) (fault : HostFault) → Has (Renamed making folder (Err fault)) e → IsTaken fault → IsOther accepts o folder e
  -- a text of a network that isn't the run's
  other_net : (bytes text : List ℕ) → Has (Read (folder ++ codes "/net") (Ok bytes)) e → Has (Read o.net (Ok text)) e → bytes ≢ text
      → IsOther accepts o folder e
  -- a text of inputs that isn't the run's, and from which that hasn't grown
  other_inputs : (given : Given) (bytes : List ℕ) → AreRead o given e → Has (Read (folder ++ codes "/inputs") (Ok bytes)) e
      → bytes ≢ given.inputs → ¬ (accepts (grown_from bytes given)) → IsOther accepts o folder e
  -- a text of inputs that isn't the run's, though the host said that this was put in its place
  unreplaced : (making bytes text : List ℕ) → Has (Renamed making (folder ++ codes "/inputs") (Ok tt)) e
      → Has (Read (folder ++ codes "/inputs") (Ok bytes)) e → Has (Read o.inputs (Ok text)) e → bytes ≢ text → IsOther accepts o folder e
  -- a text or the file of an output that isn't there
  no_text : (tail path : List ℕ) → IsTextOf o tail path → Has (Read (folder ++ tail) (Err host.NotThere)) e → IsOther accepts o folder e
  no_lines : (name : List ℕ) (waits : Bool) → Has (Opened folder name waits (Err host.NotThere)) e → IsOther accepts o folder e
  -- the file of an output of which a line is no item's
  bad_line : (name bytes : List ℕ) (waits : Bool) (line : ℕ) → Has (Opened folder name waits (Ok bytes)) e → HasBadLine bytes line
      → IsOther accepts o folder e

-- Why a file isn't read. One that isn't there is missing in the folder.
abbrev pub IsUnreadBy : List ℕ → List Request → FilesFault → Type 0
IsUnreadBy path e NoMemory = Unit {0}
IsUnreadBy path e OtherState = Has (Read path (Err host.NotThere)) e
IsUnreadBy path e Failed = (fault : HostFault) × Has (Read path (Err fault)) e × (fault ≢ host.NotThere)
IsUnreadBy path e InUse = ⊥
IsUnreadBy path e Unwritten = ⊥
IsUnreadBy path e Astray = ⊥

-- Why a file doesn't hold this text: it isn't read, or what was read differs.
abbrev pub IsUnlike : List ℕ → List ℕ → List Request → FilesFault → Type 0
IsUnlike path text e told =
    IsUnreadBy path e told ⊎ ((told ≡ OtherState) × ((bytes : List ℕ) × Has (Read path (Ok bytes)) e × (bytes ≢ text)))

-- the host didn't give a folder that was made this name, since something stands under it
abbrev pub IsTakenBy : List ℕ → List ℕ → List Request → Type 0
IsTakenBy making folder e = (fault : HostFault) × Has (Renamed making folder (Err fault)) e × IsTaken fault

-- bytes of which no items are read: a line is no item's, or memory is missing
abbrev pub IsUnreadable : List ℕ → FilesFault → Type 0
IsUnreadable bytes fault = (fault ≡ NoMemory) ⊎ ((fault ≡ OtherState) × ((line : ℕ) × HasBadLine bytes line))

-- another run is at work in the folder
abbrev pub IsBusy : List ℕ → List Request → Type 0
IsBusy folder e = Has (Locked folder (Err host.InUse)) e

-- a file that the run reads
abbrev pub IsRead : Wanted → List ℕ → Type 0
IsRead o path = (path ≡ o.net) ⊎ ((path ≡ o.inputs) ⊎ (o.script ≡ Some path))

-- What happens can't be written to a file of this name.
pub data IsUnwritable (o : Wanted) (name : List ℕ) (e : List Request) : Type 0 where
  -- it is a text of the run
  is_text : (path place : List ℕ) → IsRead o path → Has (Placed name (Ok place)) e → Has (Placed path (Ok place)) e → IsUnwritable o name e
  -- it is the run's folder, or in it
  in_folder : (folder place at : List ℕ) → o.state ≡ Some folder → Has (Placed name (Ok place)) e → Has (Placed folder (Ok at)) e
      → is_within at place ≡ true → IsUnwritable o name e
  is_folder : Has (Looked name (Ok Folder)) e → IsUnwritable o name e
  undone : HasSuch (IsUnwritten name) e → IsUnwritable o name e
  all_taken : AreFilesTaken e → IsUnwritable o name e

-- What stands in the log where a run is refused for its files. For want of memory nothing can be said. That a file came back under another
-- name than it was opened by is a fault of the program.
abbrev pub IsCaused : (Given → Type 0) → Wanted → List Request → FilesFault → Type 0
IsCaused accepts o e NoMemory = Unit {0}
IsCaused accepts o e InUse = (folder : List ℕ) × (o.state ≡ Some folder) × IsBusy folder e
IsCaused accepts o e OtherState = (folder : List ℕ) × (o.state ≡ Some folder) × IsOther accepts o folder e
IsCaused accepts o e Failed = HasSuch (IsUndone o) e ⊎ (AreFoldersTaken e ⊎ AreTextsTaken e)
IsCaused accepts o e Unwritten = (name : List ℕ) × (o.history ≡ Some name) × IsUnwritable o name e
IsCaused accepts o e Astray = Unit {0}
