-- The numbers and lines of a text's faults.
use Rattle.std.specs.Prelude.{ℕ, Option, Some, None}
use Rattle.net_text.specs.declared.fault.TextFault.{TextFault}
use Rattle.net_text.specs.declared.fault.TextFault.TheVariants.{NoMemory, BadToken, Unexpected, NumberRange, TooLong}

abbrev pub number_of : TextFault → ℕ
number_of NoMemory = 1
number_of (BadToken line) = 2
number_of (Unexpected line) = 3
number_of (NumberRange line) = 4
number_of (TooLong line) = 5

abbrev pub line_of : TextFault → Option ℕ
line_of NoMemory = None
line_of (BadToken line) = Some line
line_of (Unexpected line) = Some line
line_of (NumberRange line) = Some line
line_of (TooLong line) = Some line
