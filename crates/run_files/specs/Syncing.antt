-- What waits for the disk.
use Rattle.std.specs.Prelude.{ℕ, Bool, true, false, List, Ok}
use Rattle.host.specs.Requests.{Request, Synced, Has}
use Rattle.run_files.specs.Opening.{OfEach}

-- this stands on the disk
abbrev pub IsSynced : List ℕ → List Request → Type 0
IsSynced path e = Has (Synced path (Ok tt)) e

-- each of these does, where that is asked for
abbrev pub AreSyncedIf : Bool → List (List ℕ) → List Request → Type 0
AreSyncedIf true paths e = OfEach IsSynced paths e
AreSyncedIf false paths e = Unit {0}
