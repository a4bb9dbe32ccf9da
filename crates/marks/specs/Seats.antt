-- What the contracts say of a seat and of marks, in place of their fields.
use Rattle.std.specs.Prelude.{ℕ, List, Option}
use Rattle.atomic_table.specs.Seated.{TableId}
use Rattle.marks.specs.declared.marks.Marks.{Marks}
use Rattle.marks.specs.declared.marks.Opened.{Opened}
use Rattle.marks.specs.declared.seat.MarksName.{Ghosts as NameWords}
use Rattle.marks.specs.declared.seat.Seat.{Seat}
use Rattle.marks.specs.Known.{known_of}

-- the node of a seat; none is the driver's
abbrev pub node_of : {N : Type 0} {name : NameWords N} → Seat N name → Option ℕ
node_of seat = seat.node

-- the numbers that were raised for a channel, as far as the seat knows
abbrev pub known : {N : Type 0} {name : NameWords N} → Seat N name → ℕ → List ℕ
known seat channel = known_of seat.seat.me.0 channel

-- the owner of each channel of the marks' network
abbrev pub owners_of : {N : Type 0} {name : NameWords N} → Marks N name → List (Option ℕ)
owners_of marks = marks.owners.items

-- the same of marks that have no name yet, with their table and the number of their network's nodes
abbrev pub opened_owners : Opened → List (Option ℕ)
opened_owners opened = opened.owners.items

abbrev pub opened_nodes : Opened → ℕ
opened_nodes opened = opened.nodes

abbrev pub table_of : Opened → TableId
table_of opened = opened.table.shared.table_id
