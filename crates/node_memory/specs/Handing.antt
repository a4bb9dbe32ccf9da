-- An outlet is handed the item of a log that comes next for it.
use Rattle.std.specs.Prelude.{◌≡◌, ◌⊎◌, ◌+◌, ℕ, ℤ, List, Option, Result, Some, length, IsErrOf, OnOk}
use Rattle.protocol.specs.Node.Common.{IsPrefix, LogState, IsLogOf, TookNext}
use Rattle.outlet.specs.Faults.{failures_after}
use Rattle.outlet.specs.declared.fault.OutletFault.{OutletFault}
use Rattle.outlet.specs.declared.fault.OutletFault.TheVariants.{Failed, NoMemory}

-- What came of handing an outlet the item that comes next, by what it has taken and how often it has failed, before
-- and after.
pub record IsHandedTo (log : Option LogState) (old new : List ℤ) (failures later : ℕ)
    (result : Result (Unit {0}) OutletFault) : Type 0 where
  -- it took the item
  pub item : OnOk result (TookNext log old new)
  pub ok : OnOk result (length new ≡ length old + 1)
  -- or failed, and took it or didn't
  pub failed_item : IsErrOf result Failed → (new ≡ old) ⊎ TookNext log old new
  pub failed : IsErrOf result Failed → (length new ≡ length old) ⊎ (length new ≡ length old + 1)
  -- or had no memory, and took nothing
  pub no_memory : IsErrOf result NoMemory → new ≡ old
  -- in each case what it has begins with what it had, and of a history whose log this is it has a beginning
  pub begins : IsPrefix old new
  pub history : (of : LogState) (history : List ℤ) → log ≡ Some of → IsLogOf of history → IsPrefix old history
      → IsPrefix new history
  pub count : later ≡ failures_after result failures
