use Rattle.std.proofs.Common.{◌≡◌, ◌*◌, ◌≤◌, take}
use Rattle.std.specs.Prelude.{sum_by}
use Rattle.ckpt_codec.specs.Lengths.{saved_end_length}
use Rattle.ckpt_codec.proofs.lengths.length_of_ends.Given as goal

abbrev pub invariant-loop-saved : goal.invariant-loop-saved
invariant-loop-saved l =
    (l.total ≡ sum_by saved_end_length (take l.saved-index l.ends)) × (l.total ≤ 524311 * l.saved-index)
