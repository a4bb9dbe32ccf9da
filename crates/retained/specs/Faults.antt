-- The numbers of a log's refusals.
use Rattle.std.specs.Prelude.{ℕ}
use Rattle.retained.specs.declared.fault.LogFault.{LogFault}
use Rattle.retained.specs.declared.fault.LogFault.TheVariants.{NoMemory, Full}

abbrev pub refusal_number : LogFault → ℕ
refusal_number NoMemory = 1
refusal_number Full = 50
