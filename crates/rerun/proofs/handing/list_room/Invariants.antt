use Rattle.std.proofs.Common.{◌≡◌, ◌++◌, drop}
use Rattle.rerun.specs.TableOf.{table_view}
use Rattle.rerun.specs.Tables.{room_from}
use Rattle.rerun.proofs.handing.list_room.Given as goal

-- what is listed, and what is still to come behind it
abbrev pub invariant-loop-number : goal.invariant-loop-number
invariant-loop-number l =
    l.room.items ++ room_from l.limits (table_view l.table) l.process l.number (drop l.number l.channels)
    ≡ room_from l.limits (table_view l.table) l.process 0 l.channels
