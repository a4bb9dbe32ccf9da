-- What a fault of a run comes to.
use Rattle.std.proofs.Common.{Bool, inl, inr, refl}
use Rattle.cobaltmidge.specs.Failing.{IsRunFault}
use Rattle.cobaltmidge.specs.declared.fault.RunFault.{RunFault}
use Rattle.cobaltmidge.specs.declared.fault.RunFault.TheVariants.{NoMemory, Device, PastNumber}
use Rattle.kahn_program.specs.Runnable.{IsStoreFailure, run_failure}

pub fault_is : (counted : Bool) (fault : RunFault) → IsRunFault counted fault → IsStoreFailure counted (run_failure fault)
fault_is counted NoMemory why = tt
fault_is counted Device why = inl (refl, why)
fault_is counted PastNumber why = inr (refl, why)
