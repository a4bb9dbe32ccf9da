-- What a host was asked, the newest first, each request with its answer. A path is its bytes.
use Rattle.std.specs.Prelude.{◌≡◌, ◌⊎◌, ℕ, Bool, List, [], ◌∷◌, Result, Ok, Err}
use Rattle.host.specs.Answers.{Answer}
use Rattle.host.specs.LineRequests as lines
use Rattle.host.specs.declared.fault.HostFault.{HostFault}
use Rattle.host.specs.declared.host.Standing.{Standing}

pub data Request : Type 0 where
  -- all that a file holds
  Read : (path : List ℕ) (answer : Result (List ℕ) HostFault) → Request
  -- what stands under a name
  Looked : (path : List ℕ) (answer : Result Standing HostFault) → Request
  -- the one path at which a file of this name stands, or would stand
  Placed : (path : List ℕ) (answer : Result (List ℕ) HostFault) → Request
  -- a file or a folder, where nothing stands
  MadeFile : (path : List ℕ) (answer : Answer) → Request
  MadeFolder : (path : List ℕ) (answer : Answer) → Request
  -- what stands under a name and is no file of bytes, for writing
  OpenedDevice : (path : List ℕ) (answer : Answer) → Request
  -- these bytes at the end of what was made or opened so
  Wrote : (path bytes : List ℕ) (answer : Answer) → Request
  -- what a file holds, or which names a folder has, outlasts a loss of power
  Synced : (path : List ℕ) (answer : Answer) → Request
  Renamed : (from to : List ℕ) (answer : Answer) → Request
  -- a file, or a folder that is empty
  RemovedFile : (path : List ℕ) (answer : Answer) → Request
  RemovedFolder : (path : List ℕ) (answer : Answer) → Request
  -- the lock of a folder
  Locked : (folder : List ℕ) (answer : Answer) → Request
  Unlocked : (folder : List ℕ) → Request
  -- a file of lines of a locked folder, and what it holds; whether each put to it waits until it stands on the disk
  Opened : (folder name : List ℕ) (waits : Bool) (answer : Result (List ℕ) HostFault) → Request
  -- it has so many bytes from now on, the first ones
  Cut : (name : List ℕ) (len : ℕ) (answer : Answer) → Request
  -- it was asked all this since it was opened, and is closed
  Used : (name : List ℕ) (asked : List lines.Request) → Request
  -- these bytes on standard output, or on standard error
  Said : (bytes : List ℕ) (answer : Answer) → Request
  Told : (bytes : List ℕ) (answer : Answer) → Request
  -- what stands under this name, or standard input, to be read a piece at a time; its opener knows it by this number
  OpenedSource : (number : ℕ) (path : List ℕ) (answer : Answer) → Request
  -- what came next of the source of this number; nothing is its end
  Took : (number : ℕ) (answer : Result (List ℕ) HostFault) → Request

-- it was asked this, with this answer
abbrev pub Has : Request → List Request → Type 0
Has r [] = ⊥
Has r (s ∷ earlier) = (r ≡ s) ⊎ Has r earlier

-- what it was asked before it was asked too
abbrev pub Later : List Request → List Request → Type 0
Later old new = (r : Request) → Has r old → Has r new

-- each request keeps a rule, by those before it
abbrev pub Each : (Request → List Request → Type 0) → List Request → Type 0
Each rule [] = Unit {0}
Each rule (r ∷ earlier) = rule r earlier × Each rule earlier

-- what a request does to the lock that is held
pub data LockChange : Type 0 where
  Takes : (folder : List ℕ) → LockChange
  LetsGo : LockChange
  Leaves : LockChange

abbrev pub lock_change : Request → LockChange
lock_change (Locked folder (Ok done)) = Takes folder
lock_change (Locked folder (Err fault)) = Leaves
lock_change (Unlocked folder) = LetsGo
lock_change (Read path answer) = Leaves
lock_change (Looked path answer) = Leaves
lock_change (Placed path answer) = Leaves
lock_change (MadeFile path answer) = Leaves
lock_change (MadeFolder path answer) = Leaves
lock_change (OpenedDevice path answer) = Leaves
lock_change (Wrote path bytes answer) = Leaves
lock_change (Synced path answer) = Leaves
lock_change (Renamed from to answer) = Leaves
lock_change (RemovedFile path answer) = Leaves
lock_change (RemovedFolder path answer) = Leaves
lock_change (Opened folder name waits answer) = Leaves
lock_change (Cut name len answer) = Leaves
lock_change (Used name asked) = Leaves
lock_change (Said bytes answer) = Leaves
lock_change (Told bytes answer) = Leaves
lock_change (OpenedSource number path answer) = Leaves
lock_change (Took number answer) = Leaves

-- the newest request about a lock took that of this folder
abbrev pub held_by : List ℕ → LockChange → Type 0 → Type 0
held_by folder (Takes other) before = folder ≡ other
held_by folder LetsGo before = ⊥
held_by folder Leaves before = before

abbrev pub IsHeld : List ℕ → List Request → Type 0
IsHeld folder [] = ⊥
IsHeld folder (r ∷ earlier) = held_by folder (lock_change r) (IsHeld folder earlier)

-- no lock is held
abbrev pub free_by : LockChange → Type 0 → Type 0
free_by (Takes folder) before = ⊥
free_by LetsGo before = Unit {0}
free_by Leaves before = before

abbrev pub IsFree : List Request → Type 0
IsFree [] = Unit {0}
IsFree (r ∷ earlier) = free_by (lock_change r) (IsFree earlier)

-- it was asked this while the lock of this folder was held, which still is
abbrev pub under_by : LockChange → Type 0 → Type 0 → Type 0
under_by (Takes folder) now before = ⊥
under_by LetsGo now before = ⊥
under_by Leaves now before = now ⊎ before

abbrev pub HasUnder : List ℕ → Request → List Request → Type 0
HasUnder folder r [] = ⊥
HasUnder folder r (s ∷ earlier) =
    under_by (lock_change s) ((r ≡ s) × IsHeld folder earlier) (HasUnder folder r earlier)
