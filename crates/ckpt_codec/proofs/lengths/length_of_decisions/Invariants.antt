use Rattle.std.proofs.Common.{◌≡◌, ◌*◌, ◌+◌, ◌≤◌, take}
use Rattle.std.specs.Prelude.{sum_by}
use Rattle.ckpt_codec.specs.Lengths.{decision_length}
use Rattle.ckpt_codec.proofs.lengths.length_of_decisions.Given as goal

abbrev pub invariant-loop-decision : goal.invariant-loop-decision
invariant-loop-decision l =
    (l.total ≡ 1 + sum_by decision_length (take l.decision-index l.decisions)) × (l.total ≤ 1 + 265 * l.decision-index)
