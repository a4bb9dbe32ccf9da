-- The refusals of the plain solver.
use Rattle.std.specs.Prelude.{ℕ}
use Rattle.stream_eq.specs.declared.fault.Fault.{Fault}
use Rattle.stream_eq.specs.declared.fault.Fault.TheVariants.{NoMemory, Long}

abbrev pub number_of : Fault → ℕ
number_of NoMemory = 1
number_of Long = 19
