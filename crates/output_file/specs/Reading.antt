-- What reading a file of lines answers.
use Rattle.std.specs.Prelude.{ℕ, List}
use Rattle.output_file.specs.Lines.{HasBadLine}
use Rattle.output_file.specs.declared.fault.LinesFault.{LinesFault}
use Rattle.output_file.specs.declared.fault.LinesFault.TheVariants.{NoMemory, NotAnItem}

-- a fault of the bytes is the first line that isn't an item's
abbrev pub HasCause : List ℕ → LinesFault → Type 0
HasCause bytes NoMemory = Unit {0}
HasCause bytes (NotAnItem line) = HasBadLine bytes line
