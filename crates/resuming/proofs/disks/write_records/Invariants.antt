use Rattle.std.proofs.Common.{◌≡◌, ◌++◌, List}
use Rattle.std.specs.Vec.Iter.{into_iter_items}
use Rattle.rerun.specs.Whole.{net_in, table_in}
use Rattle.resuming.specs.Disks.{AreWritten}
use Rattle.resuming.proofs.disks.write_records.Given as goal

-- the disks of which the record was written, and then those that are to come
abbrev pub invariant-loop-disk : goal.invariant-loop-disk
invariant-loop-disk g l =
    (goal.iterator-loop-disk g).can_next l.disk-iterator ×
    (goal.iterator-loop-disk g).is_finite l.disk-iterator ×
    ((done : List _) × (done ++ into_iter_items l.disk-iterator ≡ l.fn.disks.items)
    × AreWritten g.D.Disk.sector_count g.D.Disk.content g.D.Disk.may_leave g.D.Disk.armed g.D.Disk.failure_count
    (net_in l.rerun) (table_in l.rerun) 0 done l.written.items)
