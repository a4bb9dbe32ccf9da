-- A file that isn't made whole.
use Rattle.std.specs.Prelude.{◌≢◌, ◌⊎◌, ℕ, List, Err}
use Rattle.host.specs.Requests.{Request, MadeFile, Wrote, Has}
use Rattle.host.specs.declared.fault.HostFault.{HostFault}
use Rattle.host.specs.declared.fault.HostFault.TheVariants.{IsThere}
use Rattle.run_files.specs.Causes.{AreTextsTaken}
use Rattle.run_files.specs.declared.fault.FilesFault.{FilesFault}
use Rattle.run_files.specs.declared.fault.FilesFault.TheVariants.{NoMemory, InUse, OtherState, Failed, Unwritten, Astray}

-- it wasn't made, or these bytes weren't written to it
abbrev pub IsNotMade : List ℕ → List ℕ → HostFault → List Request → Type 0
IsNotMade path bytes fault e = Has (MadeFile path (Err fault)) e ⊎ Has (Wrote path bytes (Err fault)) e

-- Why no file is made for a text: under each name something stands, or one isn't made for another reason.
abbrev pub IsUnmade : List Request → FilesFault → Type 0
IsUnmade e NoMemory = Unit {0}
IsUnmade e Failed = AreTextsTaken e ⊎ ((path : List ℕ) × (fault : HostFault) × Has (MadeFile path (Err fault)) e × (fault ≢ IsThere))
IsUnmade e InUse = ⊥
IsUnmade e OtherState = ⊥
IsUnmade e Unwritten = ⊥
IsUnmade e Astray = ⊥
