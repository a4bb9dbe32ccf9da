use Rattle.std.proofs.Common.{◌≡◌, map, length}
use Rattle.std.specs.Prelude.{replicate}
use Rattle.std.specs.List.{AllByRecursion}
use Rattle.protocol.specs.Node.Common.{SECTORS, sectors_of}
use Rattle.sector_disk.specs.MemDisk.{failures_of}
use Rattle.cobaltmidge.proofs.disks.empty_disks.Given as goal

-- so many disks, none of which failed, each of so many sectors
abbrev pub invariant-loop-node : goal.invariant-loop-node
invariant-loop-node l = (length l.disks.items ≡ l._node) × (map failures_of l.disks.items ≡ replicate l._node 0)
    × AllByRecursion (λ disk. sectors_of disk ≡ SECTORS) l.disks.items
