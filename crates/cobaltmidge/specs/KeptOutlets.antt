-- What outlets over files took, what the files have of it, and which of them failed.
use Rattle.std.specs.Prelude.{◌≡◌, ◌⊎◌, ℕ, Bool, ℤ, true, List, Some, IsTrue, is_some, length, map, slice_get}
use Rattle.std.specs.List.{AllZip}
use Rattle.host.specs.LineRequests.{has_failed}
use Rattle.host.specs.declared.line_file.LineFile.{Ghosts as FileWords}
use Rattle.output_file.specs.InFile.{IsInFile}
use Rattle.output_file.specs.Output.{asked_of, output_view}
use Rattle.output_file.specs.declared.resumed.ResumedOutlet.{ResumedOutlet}
use Rattle.station.specs.declared.output.Output.{Output}
use Rattle.run_files.specs.declared.held_file.HeldFile.{HeldFile}
use Rattle.run_files.specs.declared.fault.FilesFault.TheVariants as files
use Rattle.cobaltmidge.specs.Errors.{IsRunError}
use Rattle.cobaltmidge.specs.declared.kept_outlets.KeepFault.{KeepFault}
use Rattle.cobaltmidge.specs.declared.kept_outlets.KeepFault.TheVariants.{NoMemory, Astray, ItemDiffers, PutFailed}
use Rattle.cobaltmidge.specs.declared.state_error.StateFault.{StateFault}
use Rattle.cobaltmidge.specs.declared.state_error.StateFault.TheVariants.{Unread, NotText, Refused, Files, Kept}

-- how many items each of these files held when it was opened
abbrev pub held_counts : {F : Type 0} {file : FileWords F} → List (HeldFile F file) → List ℕ
held_counts {F} {file} files = map (λ (one : HeldFile F file). length one.held.items.items) files

-- what the outlets of these outputs took
abbrev pub taken_streams : {O : Type 0} → (O → List ℤ) → List (Output O) → List (List ℤ)
taken_streams {O} taken outputs = map (λ (output : Output O). taken output.outlet) outputs

-- each of these streams is in the file of its outlet
abbrev pub AreInFiles : {F : Type 0} {file : FileWords F} → List (ResumedOutlet F file) → List (List ℤ) → Type 0
AreInFiles {F} {file} outlets streams =
    AllZip (λ (stream : List ℤ) (outlet : ResumedOutlet F file). IsInFile stream outlet) streams outlets

-- an item differed from the one that the file held at its place, or a put to the file failed
abbrev pub IsAtFault : {F : Type 0} {file : FileWords F} → KeepFault → ResumedOutlet F file → Type 0
IsAtFault NoMemory outlet = ⊥
IsAtFault Astray outlet = ⊥
IsAtFault ItemDiffers outlet = IsTrue (is_some (output_view outlet).difference)
IsAtFault PutFailed outlet = has_failed (asked_of outlet) ≡ true

-- one of these outlets has this fault
abbrev pub SomeAtFault : {F : Type 0} {file : FileWords F} → KeepFault → List (ResumedOutlet F file) → Type 0
SomeAtFault {F} {file} fault outlets =
    (k : ℕ) × (outlet : ResumedOutlet F file) × (slice_get outlets k ≡ Some outlet) × IsAtFault fault outlet

-- memory is missing, or one of these outlets is at fault
abbrev pub IsPutFault : {F : Type 0} {file : FileWords F} → List (ResumedOutlet F file) → KeepFault → Type 0
IsPutFault outlets NoMemory = Unit {0}
IsPutFault outlets Astray = ⊥
IsPutFault outlets ItemDiffers = SomeAtFault ItemDiffers outlets
IsPutFault outlets PutFailed = SomeAtFault PutFailed outlets

-- memory is missing, or there isn't a file for each output
abbrev pub IsOpenFault : KeepFault → Type 0
IsOpenFault NoMemory = Unit {0}
IsOpenFault Astray = Unit {0}
IsOpenFault ItemDiffers = ⊥
IsOpenFault PutFailed = ⊥

-- Why a run over these outlets comes to no end: memory is missing, a file failed or is missing, or the run itself failed.
abbrev pub IsRunStop : {F : Type 0} {file : FileWords F} → Bool → List (ResumedOutlet F file) → StateFault → Type 0
IsRunStop counted outlets (Unread fault) = ⊥
IsRunStop counted outlets NotText = ⊥
IsRunStop counted outlets (Refused error) = IsRunError counted error
IsRunStop counted outlets (Files fault) = fault ≡ files.NoMemory
IsRunStop counted outlets (Kept fault) = IsPutFault outlets fault ⊎ IsOpenFault fault
