-- The table of a rerun without pointers.
use Rattle.std.specs.Prelude.{map}
use Rattle.kahn_net.specs.States.{standing_of}
use Rattle.rerun.specs.Tables.{TableView}
use Rattle.rerun.specs.declared.table.Table.{Table}

abbrev pub table_view : Table → TableView
table_view table =
    record { standings = map standing_of table.states.items; got = table.got.items; logs = table.logs.items }
