use Rattle.std.proofs.Common.{arith, ◌∙◌}
use Rattle.sector_disk.proofs.Settle.{fills, skips}
use Rattle.sector_disk.proofs.sectors.fill_doubtful.Goals as goal
use Rattle.sector_disk.proofs.sectors.fill_doubtful.Goals.{then-doubtful, else-doubtful}

pub loop-k-preserved : goal.loop-k-preserved
loop-k-preserved c = elim c.if-doubtful.branch [
  | then-doubtful w ↦ fills _ _ _ _ _ _ c.loop-k.invariant w.if-doubtful.true
      (omega (arith, c.loop-k-test.true, c.loop-k.invariant.size, c.requires)) (w.bytes-is ∙ w.fill_range.ensures)
  | else-doubtful w ↦ skips _ _ _ _ _ _ c.loop-k.invariant w.if-doubtful.false w.bytes-is
]
