-- Streams in the files of outlets, one after another, and the outlet that failed.
use Rattle.std.proofs.Common.{◌≡◌, ◌++◌, [], ◌∷◌, ℤ, List, Some, length, refl, slice_get, sym, subst}
use Rattle.output_file.specs.InFile.{IsInFile}
use Rattle.host.specs.declared.line_file.LineFile.{Ghosts as FileWords}
use Rattle.output_file.specs.declared.resumed.ResumedOutlet.{ResumedOutlet}
use Rattle.cobaltmidge.specs.KeptOutlets.{AreInFiles, IsAtFault, IsPutFault}
use Rattle.cobaltmidge.specs.declared.kept_outlets.KeepFault.{KeepFault}
use Rattle.cobaltmidge.specs.declared.kept_outlets.KeepFault.TheVariants.{NoMemory, Astray, ItemDiffers, PutFailed}

module _ {F : Type 0} {file : FileWords F} where
  -- a further one
  pub one_more_filed : (outlets : List (ResumedOutlet F file)) (streams : List (List ℤ)) (outlet : ResumedOutlet F file)
      (stream : List ℤ) → AreInFiles outlets streams → IsInFile stream outlet
      → AreInFiles (outlets ++ outlet ∷ []) (streams ++ stream ∷ [])
  one_more_filed [] [] outlet stream so_far next = (next, tt)
  one_more_filed [] (other ∷ streams) outlet stream so_far next = absurd so_far
  one_more_filed (other ∷ outlets) [] outlet stream so_far next = absurd so_far
  one_more_filed (other ∷ outlets) (another ∷ streams) outlet stream so_far next =
      (so_far.0, one_more_filed outlets streams outlet stream so_far.1 next)

pub last_of : {A : Type 0} (items : List A) (item : A) → slice_get (items ++ item ∷ []) (length items) ≡ Some item
last_of [] item = refl
last_of (other ∷ items) item = last_of items item

module _ {F : Type 0} {file : FileWords F} (outlets : List (ResumedOutlet F file)) (outlet : ResumedOutlet F file) where
  last_at_fault : (fault : KeepFault) → IsAtFault fault outlet → IsPutFault (outlets ++ outlet ∷ []) fault
  last_at_fault NoMemory is = absurd is
  last_at_fault Astray is = absurd is
  last_at_fault ItemDiffers is = (length outlets, outlet, last_of outlets outlet, is)
  last_at_fault PutFailed is = (length outlets, outlet, last_of outlets outlet, is)

  -- the outlet that was added last failed
  pub one_at_fault : (after : List (ResumedOutlet F file)) (fault : KeepFault) → after ≡ outlets ++ outlet ∷ [] → IsAtFault fault outlet
      → IsPutFault after fault
  one_at_fault after fault same is =
      subst (λ (all : List (ResumedOutlet F file)). IsPutFault all fault) (sym same) (last_at_fault fault is)

pub no_items : {A : Type 0} (items : List A) → length items ≡ 0 → items ≡ []
no_items [] none = refl
no_items (item ∷ items) none = absurd (cc)
