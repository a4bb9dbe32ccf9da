-- Why a store refuses, and the numbers of its refusals.
use Rattle.std.specs.Prelude.{◌≡◌, ℕ, ◌<◌, Bool, true, false, Result, IsErrOf}
use Rattle.ckpt_store.specs.declared.fault.StoreFault.{StoreFault}
use Rattle.ckpt_store.specs.declared.fault.StoreFault.TheVariants.{NoMemory, Device, TooLarge, Reopen, Truncated}
use Rattle.ckpt_store.specs.declared.fault.StoreFault.TheVariants.{Version, Malformed, HoldsOther, PastNumber, NotHeld}
use Rattle.ckpt_store.specs.declared.fault.StoreFault.TheVariants.{Unsettled, Spent}
use Rattle.gate_cell.specs.declared.fault.CellFault.{CellFault}
use Rattle.gate_cell.specs.declared.fault.CellFault.TheVariants as cell
use Rattle.ckpt_codec.specs.declared.fault.CodecFault.{CodecFault}
use Rattle.ckpt_codec.specs.declared.fault.CodecFault.TheVariants as codec

abbrev pub refusal_number : StoreFault → ℕ
refusal_number NoMemory = 1
refusal_number Device = 20
refusal_number TooLarge = 22
refusal_number Reopen = 23
refusal_number Truncated = 30
refusal_number Version = 31
refusal_number Malformed = 32
refusal_number HoldsOther = 40
refusal_number PastNumber = 41
refusal_number NotHeld = 42
refusal_number Unsettled = 43
refusal_number Spent = 44

-- the cell's refusals, as the store's
abbrev pub of_cell : CellFault → StoreFault
of_cell cell.NoMemory = NoMemory
of_cell cell.Device = Device
of_cell cell.TooLarge = TooLarge
of_cell cell.Reopen = Reopen

-- the reader's refusals, as the store's
abbrev pub of_codec : CodecFault → StoreFault
of_codec codec.NoMemory = NoMemory
of_codec codec.Truncated = Truncated
of_codec codec.Version = Version
of_codec codec.Malformed = Malformed

-- a refusal that comes once the record itself gives no cause for one: of memory, of the device, or of the record's
-- length
abbrev pub IsOfPut : StoreFault → Type 0
IsOfPut NoMemory = Unit {0}
IsOfPut Device = Unit {0}
IsOfPut TooLarge = Unit {0}
IsOfPut Reopen = ⊥
IsOfPut Truncated = ⊥
IsOfPut Version = ⊥
IsOfPut Malformed = ⊥
IsOfPut HoldsOther = ⊥
IsOfPut PastNumber = ⊥
IsOfPut NotHeld = ⊥
IsOfPut Unsettled = ⊥
IsOfPut Spent = ⊥

-- the device failed
abbrev pub is_failure : StoreFault → Bool
is_failure Device = true
is_failure NoMemory = false
is_failure TooLarge = false
is_failure Reopen = false
is_failure Truncated = false
is_failure Version = false
is_failure Malformed = false
is_failure HoldsOther = false
is_failure PastNumber = false
is_failure NotHeld = false
is_failure Unsettled = false
is_failure Spent = false

-- `Device` is told exactly where the count of the device's failures rose
pub record HasFailures {T : Type 0} (before now : ℕ) (result : Result T StoreFault) : Type 0 where
  pub device : IsErrOf result Device → before < now
  pub otherwise : ¬ (IsErrOf result Device) → now ≡ before
