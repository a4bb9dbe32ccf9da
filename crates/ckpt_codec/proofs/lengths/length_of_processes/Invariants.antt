use Rattle.std.proofs.Common.{◌≡◌, ◌*◌, ◌≤◌, take}
use Rattle.std.specs.Prelude.{sum_by}
use Rattle.ckpt_codec.specs.Lengths.{process_length}
use Rattle.ckpt_codec.proofs.lengths.length_of_processes.Given as goal

abbrev pub invariant-loop-process : goal.invariant-loop-process
invariant-loop-process l =
    (l.total ≡ sum_by process_length (take l.process-index l.processes)) × (l.total ≤ 4096 * l.process-index)
