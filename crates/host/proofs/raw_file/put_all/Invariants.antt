use Rattle.std.proofs.Common.{◌≤◌, ◌-◌, drop, take}
use Rattle.host.proofs.Taking.{IsPutSoFar}
use Rattle.host.proofs.raw_file.put_all.Given as goal

abbrev pub invariant-loop-next : goal.invariant-loop-next
invariant-loop-next g l = record {
  ordered : l.from ≤ l.next;
  there : l.next ≤ l.to;
  so_far : IsPutSoFar l.at (drop l.from (take l.to l.bytes.items)) (l.next - l.from)
      (g.F.RawFile.writes l.fn.file) (g.F.RawFile.writes l.file);
}

abbrev pub decreases-loop-next : goal.decreases-loop-next
decreases-loop-next g l = l.to - l.next
