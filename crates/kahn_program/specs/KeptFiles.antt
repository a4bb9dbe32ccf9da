-- What files have of a run.
use Rattle.std.specs.Prelude.{◌≡◌, ◌⊎◌, ℕ, List}
use Rattle.host.specs.declared.line_file.LineFile.{Ghosts as FileWords}
use Rattle.output_file.specs.declared.resumed.ResumedOutlet.{ResumedOutlet}
use Rattle.cobaltmidge.specs.KeptOutlets.{IsPutFault}
use Rattle.cobaltmidge.specs.declared.kept_outlets.KeepFault.{KeepFault}
use Rattle.cobaltmidge.specs.declared.kept_outlets.KeepFault.TheVariants as fault
use Rattle.kahn_program.specs.declared.failure.Failure.{Failure}
use Rattle.kahn_program.specs.declared.failure.Failure.TheVariants.{NoMemory, State}
use Rattle.kahn_program.specs.declared.kept_files.FileKeeper.{FileKeeper}
use Rattle.kahn_program.specs.declared.kept_files.TheConstants.{ASTRAY, FILE_FAILED, ITEM_DIFFERS}
pub use Rattle.cobaltmidge.specs.KeptOutlets.{AreInFiles, held_counts}

-- how many items its files held when they were opened, before a run begins
abbrev pub held_of : {F : Type 0} {file : FileWords F} → FileKeeper F file → List ℕ
held_of keeper = held_counts keeper.files.items

-- the outlets of a run that is over
abbrev pub closed_of : {F : Type 0} {file : FileWords F} → FileKeeper F file → List (ResumedOutlet F file)
closed_of keeper = keeper.closed.items

-- what a fault of what is kept comes to
abbrev pub keep_failure : KeepFault → Failure
keep_failure fault.NoMemory = NoMemory
keep_failure fault.Astray = State ASTRAY
keep_failure fault.ItemDiffers = State ITEM_DIFFERS
keep_failure fault.PutFailed = State FILE_FAILED

-- One of the outlets of a run that is over failed, by the number of the refusal. Or what was opened isn't what the network has, which is a
-- fault of the program (83).
abbrev pub HasFailedBy : {F : Type 0} {file : FileWords F} → FileKeeper F file → ℕ → Type 0
HasFailedBy keeper number =
    (number ≡ ASTRAY) ⊎ ((fault : KeepFault) × (keep_failure fault ≡ State number) × IsPutFault keeper.closed.items fault)
