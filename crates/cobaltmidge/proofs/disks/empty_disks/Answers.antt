use Rattle.std.proofs.Common.{rules, ◌≡◌, map, sym, ap, subst, ◌∙◌}
use Rattle.std.specs.List.{AllByRecursion}
use Rattle.protocol.specs.Node.Common.{SECTORS, sectors_of}
use Rattle.sector_disk.specs.MemDisk.{failures_of}
use Rattle.sector_disk.specs.declared.memory.MemDisk.{MemDisk}
use Rattle.cobaltmidge.proofs.Turns.{each_more, none_more}
use Rattle.cobaltmidge.proofs.disks.empty_disks.Goals as goal

pub loop-node-preserved : goal.loop-node-preserved
loop-node-preserved c = (
  search rules,
  ap (map failures_of) c.in_ok-push.ensures.items
      ∙ none_more failures_of c.loop-node.disks.items c.in_ok-empty_disk.field-0 c.loop-node._node
      c.loop-node.invariant.1
      c.in_ok-empty_disk.ensures.unfailed,
  subst (AllByRecursion (λ (disk : MemDisk). sectors_of disk ≡ SECTORS)) (sym c.in_ok-push.ensures.items)
      (each_more _ c.loop-node.disks.items c.in_ok-empty_disk.field-0 c.loop-node.invariant.2
      c.in_ok-empty_disk.ensures.sectors),
)
