-- What a run made, and neither gave the name that is asked for nor took away.
use Rattle.std.specs.Prelude.{◌≡◌, ◌≢◌, ◌⊎◌, ℕ, zero, suc, true, false, List, [], ◌∷◌, Option, Some, None, Ok, Err, string_bytes}
use Rattle.std.specs.declared.alloc.Global.{Global}
use Rattle.std.specs.declared.string.String.{String}
use Rattle.host.specs.Requests.{Request, Read, Looked, Placed, MadeFile, MadeFolder, OpenedDevice, Wrote, Synced, Renamed, RemovedFile, RemovedFolder}
use Rattle.host.specs.Requests.{Locked, Unlocked, Opened, Cut, Used, Said, Told, OpenedSource, Took}
use Rattle.run_files.specs.Places.{is_within}

-- what a request does to what was made
pub data Trace : Type 0 where
  Makes : (path : List ℕ) → Trace
  -- the host was asked to take it away
  Removes : (path : List ℕ) → Trace
  -- it got another name, with all that stands in it
  Names : (from : List ℕ) → Trace
  Stays : Trace

abbrev pub trace_of : Request → Trace
trace_of (MadeFile path (Ok done)) = Makes path
trace_of (MadeFile path (Err fault)) = Stays
trace_of (MadeFolder path (Ok done)) = Makes path
trace_of (MadeFolder path (Err fault)) = Stays
trace_of (RemovedFile path answer) = Removes path
trace_of (RemovedFolder path answer) = Removes path
trace_of (Renamed from to (Ok done)) = Names from
trace_of (Renamed from to (Err fault)) = Stays
trace_of (Read path answer) = Stays
trace_of (Looked path answer) = Stays
trace_of (Placed path answer) = Stays
trace_of (OpenedDevice path answer) = Stays
trace_of (Wrote path bytes answer) = Stays
trace_of (Synced path answer) = Stays
trace_of (Locked folder answer) = Stays
trace_of (Unlocked folder) = Stays
trace_of (Opened folder name waits answer) = Stays
trace_of (Cut name len answer) = Stays
trace_of (Used name asked) = Stays
trace_of (Said bytes answer) = Stays
trace_of (Told bytes answer) = Stays
trace_of (OpenedSource number path answer) = Stays
trace_of (Took number answer) = Stays

abbrev pub left_by : List ℕ → Trace → Type 0 → Type 0
left_by path (Makes made) before = (path ≡ made) ⊎ before
left_by path (Removes gone) before = (path ≢ gone) × before
left_by path (Names from) before = (is_within from path ≡ false) × before
left_by path Stays before = before

-- A file or a folder of this name was made. Neither it nor a folder in which it stands got another name since, and the host wasn't asked to take
-- it away.
abbrev pub IsLeft : List ℕ → List Request → Type 0
IsLeft path [] = ⊥
IsLeft path (r ∷ earlier) = left_by path (trace_of r) (IsLeft path earlier)

-- no path
abbrev pub no_path : List ℕ → Type 0
no_path path = ⊥

-- this name alone
abbrev pub IsNamed : Option (List ℕ) → List ℕ → Type 0
IsNamed None path = ⊥
IsNamed (Some name) path = path ≡ name

-- this folder, or what stands in it
abbrev pub IsIn : List ℕ → List ℕ → Type 0
IsIn folder path = is_within folder path ≡ true

-- one of the first ones of these paths
abbrev pub IsFirst : ℕ → List (String Global) → List ℕ → Type 0
IsFirst zero paths path = ⊥
IsFirst (suc count) [] path = ⊥
IsFirst (suc count) (first ∷ paths) path = (path ≡ string_bytes first) ⊎ IsFirst count paths path

-- nothing of these is left
abbrev pub AreGone : (List ℕ → Type 0) → List Request → Type 0
AreGone made e = (path : List ℕ) → made path → IsLeft path e → ⊥

-- nothing is left that wasn't left before
abbrev pub LeavesNothing : List Request → List Request → Type 0
LeavesNothing old new = (path : List ℕ) → IsLeft path new → IsLeft path old
