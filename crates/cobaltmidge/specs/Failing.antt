-- Why a run of a network comes to no end.
use Rattle.std.specs.Prelude.{◌≡◌, ℕ, Bool, true, List}
use Rattle.std.specs.List.{AllByRecursion}
use Rattle.protocol.specs.Node.Common.{sectors_of, SECTORS, StoreFault}
use Rattle.sector_disk.specs.MemDisk.{failures_of}
use Rattle.sector_disk.specs.declared.memory.MemDisk.{MemDisk}
use Rattle.ckpt_store.specs.declared.fault.StoreFault.TheVariants as store
use Rattle.runtime.specs.Logs.{HubFault}
use Rattle.runtime.specs.Logs as hub
use Rattle.world.specs.OpeningWorld.{SomeFailed}
use Rattle.cobaltmidge.specs.declared.fault.RunFault.{RunFault}
use Rattle.cobaltmidge.specs.declared.fault.RunFault.TheVariants.{NoMemory, Device, PastNumber}

-- the refusal's number
abbrev pub run_fault_number : RunFault → ℕ
run_fault_number NoMemory = 1
run_fault_number Device = 20
run_fault_number PastNumber = 44

-- a refusal of a store, while a world is made: of memory, or of a device
abbrev pub store_fault : StoreFault → RunFault
store_fault store.NoMemory = NoMemory
store_fault store.Device = Device
store_fault store.TooLarge = Device
store_fault store.Reopen = Device
store_fault store.Truncated = Device
store_fault store.Version = Device
store_fault store.Malformed = Device
store_fault store.HoldsOther = Device
store_fault store.PastNumber = Device
store_fault store.NotHeld = Device
store_fault store.Unsettled = Device
store_fault store.Spent = Device

-- a refusal of the hub
abbrev pub hub_fault : HubFault → RunFault
hub_fault hub.NoMemory = NoMemory
hub_fault hub.PastNumber = PastNumber

-- one of the disks of a run failed while its world was made
pub record HasFailedAtOnce : Type 0 where
  pub disks : List MemDisk
  pub backs : List MemDisk
  pub sectors : AllByRecursion (λ (disk : MemDisk). sectors_of disk ≡ SECTORS) disks
  pub failed : SomeFailed failures_of disks backs

-- Why a run comes to no end: memory is missing, also for a thread; a disk failed while its world was made; or, where events are counted, as in
-- each run, a count would pass 2^63 - 1.
abbrev pub IsRunFault : Bool → RunFault → Type 0
IsRunFault counted NoMemory = Unit {0}
IsRunFault counted Device = ∥ HasFailedAtOnce ∥₁
IsRunFault counted PastNumber = counted ≡ true
