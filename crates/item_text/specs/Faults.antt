-- The numbers and lines of a stream's faults.
use Rattle.std.specs.Prelude.{ℕ}
use Rattle.item_text.specs.declared.fault.ItemFault.{ItemFault}
use Rattle.item_text.specs.declared.fault.ItemFault.TheVariants.{BadToken, NumberRange}

abbrev pub number_of : ItemFault → ℕ
number_of (BadToken line) = 2
number_of (NumberRange line) = 4

abbrev pub line_of : ItemFault → ℕ
line_of (BadToken line) = line
line_of (NumberRange line) = line
