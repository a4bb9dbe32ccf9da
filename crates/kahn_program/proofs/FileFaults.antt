-- What failed of the outlets of a run, by its number.
use Rattle.std.proofs.Common.{◌≡◌, inl, inr, refl, sym, subst, ℕ, List}
use Rattle.host.specs.Requests.{Request}
use Rattle.host.specs.declared.line_file.LineFile.{Ghosts as FileWords}
use Rattle.run_files.specs.Opening.{AreOpened, AreUsed}
use Rattle.run_files.specs.Wanted.{Wanted}
use Rattle.run_files.specs.declared.held_file.OpenedName.{OpenedName}
use Rattle.cobaltmidge.specs.KeptOutlets.{IsPutFault}
use Rattle.cobaltmidge.specs.KeptStreams.{HasKeepFault}
use Rattle.cobaltmidge.specs.declared.kept_outlets.KeepFault.{KeepFault}
use Rattle.cobaltmidge.specs.declared.kept_outlets.KeepFault.TheVariants.{NoMemory, Astray, ItemDiffers, PutFailed}
use Rattle.cobaltmidge.proofs.InFolder as in_folder
use Rattle.kahn_program.specs.Causes.{HasFileFault}
use Rattle.kahn_program.specs.Keeping.{IsKeptFailure}
use Rattle.kahn_program.specs.KeptFiles.{HasFailedBy, keep_failure}
use Rattle.kahn_program.specs.declared.failure.Failure.{Failure}
use Rattle.kahn_program.specs.declared.failure.Failure.TheVariants.{State}
use Rattle.kahn_program.specs.declared.kept_files.FileKeeper.{FileKeeper}

number_of : (a b : ℕ) → State a ≡ State b → b ≡ a
number_of a b same = cc

by_number : (o : Wanted) (number : ℕ) (e : List Request) (fault : KeepFault) → keep_failure fault ≡ State number → HasKeepFault o e fault
    → HasFileFault o e number
by_number o number e NoMemory is h = absurd (cc)
by_number o number e Astray is h = inr (inr (number_of _ _ is))
by_number o number e ItemDiffers is h = inl (number_of _ _ is, h)
by_number o number e PutFailed is h = inr (inl (number_of _ _ is, h))

module _ {F : Type 0} {file : FileWords F} where
  closed_by : (keeper : FileKeeper F file) (fault : KeepFault) → IsPutFault keeper.closed.items fault
      → IsKeptFailure (HasFailedBy keeper) (keep_failure fault)
  closed_by keeper NoMemory h = tt
  closed_by keeper Astray h = absurd h
  closed_by keeper ItemDiffers h = inr (ItemDiffers, refl, h)
  closed_by keeper PutFailed h = inr (PutFailed, refl, h)

  -- what failed as the outlets of a run that is over were put
  pub close_failed : (keeper : FileKeeper F file) (fault : KeepFault) (failure : Failure) → failure ≡ keep_failure fault
      → IsPutFault keeper.closed.items fault → IsKeptFailure (HasFailedBy keeper) failure
  close_failed keeper fault failure is h = subst (IsKeptFailure (HasFailedBy keeper)) (sym is) (closed_by keeper fault h)

  -- what the outlets that were given back were asked says which of them failed
  pub fault_in_log : (o : Wanted) (folder : List ℕ) (number : ℕ) (e : List Request) (opened : List OpenedName) (keeper : FileKeeper F file)
      → AreOpened o.sync folder opened e → AreUsed opened keeper.closed.items e → HasFailedBy keeper number → HasFileFault o e number
  fault_in_log o folder number e opened keeper were used (inl astray) = inr (inr astray)
  fault_in_log o folder number e opened keeper were used (inr some) =
      by_number o number e some.0 some.1 (in_folder.fault_in_log o folder e opened keeper.closed.items some.0 were used some.2)
