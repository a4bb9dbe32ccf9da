-- The numbers and lines of a script's faults.
use Rattle.std.specs.Prelude.{ℕ, Option, Some, None}
use Rattle.fail_script.specs.declared.fault.ScriptFault.{ScriptFault}
use Rattle.fail_script.specs.declared.fault.ScriptFault.TheVariants.{NoMemory, BadLine, UnknownNode}

abbrev pub number_of : ScriptFault → ℕ
number_of NoMemory = 1
number_of (BadLine line) = 70
number_of (UnknownNode line) = 71

abbrev pub line_of : ScriptFault → Option ℕ
line_of NoMemory = None
line_of (BadLine line) = Some line
line_of (UnknownNode line) = Some line
