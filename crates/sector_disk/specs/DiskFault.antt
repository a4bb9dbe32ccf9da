-- The numbers of a disk's refusals.
use Rattle.std.specs.Prelude.{ℕ}
use Rattle.sector_disk.specs.declared.fault.DiskFault.{DiskFault}
use Rattle.sector_disk.specs.declared.fault.DiskFault.TheVariants.{Device, Range}

abbrev pub refusal_number : DiskFault → ℕ
refusal_number Device = 20
refusal_number Range = 21
