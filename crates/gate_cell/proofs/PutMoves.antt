-- What a put leaves of the whole disk.
use Rattle.std.proofs.Common.{◌≡◌, inl, ℕ, ◌+◌, ◌-◌, ◌*◌, ◌%◌, ◌≤◌, List, length, get_or}
use Rattle.std.proofs.Common.{sym, ◌∙◌, ap, subst, arith}
use Rattle.sector_disk.specs.Clock.{LeavesOnly}
use Rattle.sector_disk.specs.Disk.{SameOutside, IsOverwritten}
use Rattle.sector_disk.specs.declared.TheConstants.{SECTOR_BYTES}
use Rattle.sector_disk.proofs.Moments.{joined, weakened}
use Rattle.sector_disk.proofs.Writes.{overwritten_outside}
use Rattle.gate_cell.specs.Layout.{area_sectors, room_on, value_in, IsFrame}
use Rattle.gate_cell.specs.Stands.{PutLeaves}
use Rattle.gate_cell.proofs.OnePut.{Setting, inside, after_first, after_second}
use Rattle.gate_cell.proofs.Areas.{behind_same}

pub put_setting : (size active a : ℕ) (seen frame : List ℕ) (sectors : ℕ) → 3 ≤ size → active ≤ 1
    → get_or seen 0 0 % 2 ≡ active → length seen ≡ SECTOR_BYTES * sectors → size ≤ sectors
    → IsFrame (value_in frame) frame
    → length (value_in frame) ≤ room_on size → a ≡ area_sectors size
    → Setting size active (SECTOR_BYTES * (1 + (1 - active) * a)) seen (value_in frame) frame
put_setting size active a seen frame sectors big le gate whole within is_frame room area_is = record {
  big = big;
  le = le;
  gate = gate;
  whole = omega (arith, whole, within);
  is_frame = is_frame;
  room = room;
  at_is = ap (λ a. SECTOR_BYTES * (1 + (1 - active) * a)) area_is;
}

module _ {D : Type 0} (moment : D → ℕ) (left_since : D → ℕ → List ℕ → Type 0) (old mid : D) where
  module _ (size active at : ℕ) (seen value frame : List ℕ) (s : Setting size active at seen value frame) where
    ends : at + length frame ≤ SECTOR_BYTES * size
    ends =
        let short : length frame ≤ SECTOR_BYTES * area_sectors size = omega (arith, s.big, s.room, s.is_frame.whole) in
        subst (λ x. x + length frame ≤ SECTOR_BYTES * size) (sym s.at_is)
        (inside size active (length frame) s.big s.le short)

    pub first_left : LeavesOnly moment left_since old mid (SameOutside at (length frame) seen)
        → LeavesOnly moment left_since old mid (PutLeaves size seen value)
    first_left run =
        weakened moment left_since old mid (PutLeaves size seen value) (SameOutside at (length frame) seen) run
        (λ c torn. record {
          stands = inl (after_first size active at seen value frame s c torn);
          behind =
              behind_same at (length frame) (SECTOR_BYTES * size) seen c torn ends;
        })

module _ {D : Type 0} (moment : D → ℕ) (left_since : D → ℕ → List ℕ → Type 0) (old mid new : D) (size active at : ℕ)
    (seen value frame : List ℕ) (s : Setting size active at seen value frame) where
  pub both_left : (between : List ℕ) → IsOverwritten seen at frame between
      → LeavesOnly moment left_since old mid (SameOutside at (length frame) seen)
      → LeavesOnly moment left_since mid new (SameOutside 0 SECTOR_BYTES between)
      → LeavesOnly moment left_since old new (PutLeaves size seen value)
  both_left between written one two =
      joined moment left_since old mid new (PutLeaves size seen value) (SameOutside 0 SECTOR_BYTES between)
      (first_left moment left_since old mid size active at seen value frame s one) two
      (λ c torn. record {
        stands = after_second size active at seen value frame s between written c torn;
        behind = behind_same 0 SECTOR_BYTES (SECTOR_BYTES * size) between c torn (omega (arith, s.big))
            ∙ behind_same at (length frame) (SECTOR_BYTES * size) seen between
            (overwritten_outside at frame seen between
            (omega (arith, s.whole, ends moment left_since old mid size active at seen value frame s)) written)
            (ends moment left_since old mid size active at seen value frame s);
      })
