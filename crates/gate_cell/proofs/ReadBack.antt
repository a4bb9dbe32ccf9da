-- What a read of the front of an area gives.
use Rattle.std.proofs.Common.{◌≡◌, ◌≤◌, ◌+◌, ◌*◌, ◌%◌, ℕ, List, get_or, take, drop, sym, ◌∙◌, ap, arith}
use Rattle.sector_disk.specs.declared.TheConstants.{SECTOR_BYTES}
use Rattle.gate_cell.specs.declared.frame.TheConstants.{LENGTH_BYTES}
use Rattle.gate_cell.specs.Layout.{area, area_sectors, room_on, frame_size, named, length_in, value_in}
use Rattle.gate_cell.proofs.Areas.{take_behind}

-- what was read, behind its length, is the value
pub read_value : (size active value_len a n : ℕ) (seen frame read value : List ℕ) → 3 ≤ size → get_or seen 0 0 % 2 ≡ active
    → length_in (named size seen) ≡ value_len → value_len ≤ room_on size
    → a ≡ area_sectors size → n ≡ frame_size value_len → frame ≡ read
    → read ≡ take n (drop (SECTOR_BYTES * (1 + active * a)) seen)
    → value ≡ take value_len (drop LENGTH_BYTES frame) → value ≡ value_in (named size seen)
read_value size active value_len a n seen frame read value big gate long fits area_is n_is frame_is read_is value_is =
    let rest = drop (SECTOR_BYTES * (1 + active * area_sectors size)) seen in
    let m = SECTOR_BYTES * area_sectors size in
    let from : frame ≡ take n rest =
    frame_is ∙ read_is ∙ ap (λ k. take n (drop (SECTOR_BYTES * (1 + active * k)) seen)) area_is in
    value_is ∙ ap (λ (l : List ℕ). take value_len (drop LENGTH_BYTES l)) from
    ∙ take_behind LENGTH_BYTES value_len n rest (omega (arith, n_is))
    ∙ sym (take_behind LENGTH_BYTES value_len m rest (omega (arith, big, fits)))
    ∙ ap (λ k. take value_len (drop LENGTH_BYTES (area size k seen))) (sym gate)
    ∙ ap (λ k. take k (drop LENGTH_BYTES (named size seen))) (sym long)
