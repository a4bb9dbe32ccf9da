-- That disks and outlets are such as a world leaves. `sectors`, `content` and `may_leave` are the disks' words, `taken` is
-- the outlets'.
use Rattle.std.specs.Prelude.{ℕ, ◌≤◌, ℤ, List, map}
use Rattle.std.specs.List.{AllByRecursion}
use Rattle.gate_cell.specs.Stands.{MayShow}
use Rattle.slot_cell.specs.SplitLayout.{whole_on}
use Rattle.slot_cell.specs.declared.TheConstants.{LEAST_SPLIT_SECTORS}
use Rattle.ckpt_store.specs.StoreView.{record_spelled}
use Rattle.protocol.specs.Node.Common.{Network, RecordView, Spells, Whole}
use Rattle.station.specs.OutputView.{outputs_view}
use Rattle.station.specs.declared.output.Output.{Output}
use Rattle.starting_again.specs.WasLeft.{WasLeft}

-- the record that a disk's content spells; a blank one where it spells none
abbrev pub record_on : {D : Type 0} → (D → ℕ) → (D → List ℕ) → D → RecordView
record_on sectors content disk = record_spelled (whole_on (sectors disk) (content disk))

-- the records that the contents of these disks spell, in their order
abbrev pub records_on : {D : Type 0} → (D → ℕ) → (D → List ℕ) → List D → List RecordView
records_on sectors content disks = map (record_on sectors content) disks

-- The disk has header and slots, and whatever a crash leaves of it now spells the record that its content spells.
pub record HoldsRecord {D : Type 0} (sectors : D → ℕ) (content : D → List ℕ) (may_leave : D → List ℕ → Type 0) (disk : D)
    : Type 0 where
  pub long : LEAST_SPLIT_SECTORS ≤ sectors disk
  pub alone : (left : Whole) → MayShow whole_on may_leave sectors disk left
      → ∥ Spells (record_on sectors content disk) left ∥₁

-- Each of these disks holds a record, and some world of this network on these inputs left these records, by node, and what
-- these outputs took, by channel.
pub record AreLeft {D O : Type 0} (sectors : D → ℕ) (content : D → List ℕ) (may_leave : D → List ℕ → Type 0)
    (taken : O → List ℤ) (net : Network) (inputs : List (List ℤ)) (disks : List D) (outputs : List (Output O)) : Type 0
  where
    pub held : AllByRecursion (HoldsRecord sectors content may_leave) disks
    pub left : WasLeft net inputs (records_on sectors content disks) (outputs_view taken outputs)
