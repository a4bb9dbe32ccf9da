-- A first value: its frame goes to area 0, whatever the gate says, and then the gate names that area.
use Rattle.std.proofs.Common.{◌≡◌, ℕ, ◌+◌, ◌*◌, ◌≤◌, List, length, take, drop, ◌∙◌, subst, arith}
use Rattle.sector_disk.specs.Clock.{Only}
use Rattle.sector_disk.specs.Disk.{IsOverwritten}
use Rattle.sector_disk.proofs.Writes.{overwritten_outside}
use Rattle.sector_disk.specs.declared.TheConstants.{SECTOR_BYTES}
use Rattle.gate_cell.specs.Layout.{area_sectors, room_on, frame_size, named, value_on, IsGate, IsFrame}
use Rattle.gate_cell.specs.Layout.{IsSettled}
use Rattle.gate_cell.proofs.OnePut.{other_at, inside, short_frame, gate_names, done_long, done_value, done_frame}
use Rattle.gate_cell.proofs.Areas.{behind_same}

module _ (size : ℕ) (seen mid done value frame bytes : List ℕ) (big : 3 ≤ size)
    (whole : SECTOR_BYTES * size ≤ length seen)
    (is_frame : IsFrame value frame) (room : length value ≤ room_on size)
    (first : IsOverwritten seen (SECTOR_BYTES * 1) frame mid) (whole_mid : SECTOR_BYTES * size ≤ length mid)
    (long : length bytes ≡ SECTOR_BYTES) (names : IsGate 0 bytes) (second : IsOverwritten mid 0 bytes done) where
  le : 1 ≤ 1
  le = omega arith

  short : length frame ≤ SECTOR_BYTES * area_sectors size
  short = short_frame size value frame big room is_frame

  at_is : SECTOR_BYTES * 1 ≡ other_at size 1
  at_is = omega arith

  there : IsOverwritten seen (other_at size 1) frame mid
  there = subst (λ x. IsOverwritten seen x frame mid) at_is first

  pub laid_value : value_on size done ≡ value
  laid_value =
      done_value size 1 seen value frame big le whole is_frame short room mid there bytes done long names.names second
      whole_mid

  pub laid_frame : IsFrame value (take (frame_size (length value)) (named size done))
  laid_frame =
      done_frame size 1 seen value frame big le whole is_frame short room mid there bytes done long names.names second
      whole_mid

  pub laid_settled : (may_leave : List ℕ → Type 0) → Only done may_leave
      → IsSettled done may_leave size 0 (length value)
  laid_settled may_leave only = record {
    durable = only;
    gate = gate_names size 1 seen value frame big le whole is_frame short room mid there bytes done long names.names
        second whole_mid;
    long = done_long size 1 seen value frame big le whole is_frame short room mid there bytes done long names.names
        second whole_mid;
    fits = room;
  }

  ends : other_at size 1 + length frame ≤ SECTOR_BYTES * size
  ends = inside size 1 (length frame) big le short

  -- nothing behind these sectors was written
  pub laid_behind : drop (SECTOR_BYTES * size) done ≡ drop (SECTOR_BYTES * size) seen
  laid_behind =
      behind_same 0 (length bytes) (SECTOR_BYTES * size) mid done
      (overwritten_outside 0 bytes mid done (omega (arith, long, whole_mid, big)) second) (omega (arith, long, big))
      ∙ behind_same (other_at size 1) (length frame) (SECTOR_BYTES * size) seen mid
      (overwritten_outside (other_at size 1) frame seen mid (omega (arith, ends, whole)) there) ends
