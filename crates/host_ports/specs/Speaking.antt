-- What is printed of the items that leave.
use Rattle.std.specs.Prelude.{ℕ, List, [], ◌∷◌, ◌++◌, Option, Some, None, slice_get}
use Rattle.item_text.specs.Lines.{item_line}
use Rattle.item_bytes.specs.Bytes.{bytes_of_item}
use Rattle.host_ports.specs.declared.form.Form.{Form}
use Rattle.host_ports.specs.declared.form.Form.TheVariants.{Decimal, Binary}
use Rattle.net_text.specs.Names.{NameTree}
use Rattle.outside.specs.declared.departure.Departure.{Departure}

-- a name and a space, where there is one
abbrev pub named : Option NameTree → List ℕ
named None = []
named (Some name) = name.text ++ 32 ∷ []

-- the name of an output and a space, where names are given
abbrev pub name_before : Option (List NameTree) → ℕ → List ℕ
name_before None output = []
name_before (Some names) output = named (slice_get names output)

-- the line of an item that left
abbrev pub departure_line : Option (List NameTree) → Departure → List ℕ
departure_line names one = name_before names one.output ++ item_line one.item

-- what is written of an item that left: its line, or its bytes, which have no name
abbrev pub departure_text : Form → Option (List NameTree) → Departure → List ℕ
departure_text Decimal names one = departure_line names one
departure_text Binary names one = bytes_of_item one.item

-- and of all of these, of which the newest stands first here
abbrev pub departures_text : Form → Option (List NameTree) → List Departure → List ℕ
departures_text form names [] = []
departures_text form names (one ∷ earlier) = departures_text form names earlier ++ departure_text form names one
