-- What a crash may leave of sectors.
use Rattle.std.specs.Prelude.{ℕ, List}
use Rattle.sector_disk.specs.Images.{MayLeave}
use Rattle.sector_disk.specs.declared.sectors.Sectors.{Sectors}

-- a crash leaves this or that in the sectors in doubt, and what the others hold
abbrev pub left_of : Sectors → List ℕ → Type 0
left_of sectors = MayLeave sectors.bytes.items sectors.doubt.flags.items
