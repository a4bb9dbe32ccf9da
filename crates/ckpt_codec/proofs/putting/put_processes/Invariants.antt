use Rattle.std.proofs.Common.{◌≡◌, ◌++◌, take}
use Rattle.std.specs.Prelude.{All}
use Rattle.std.specs.List.{flat_map}
use Rattle.ckpt_codec.specs.Spelling.{process_text, HasItems}
use Rattle.ckpt_codec.proofs.putting.put_processes.Given as goal

abbrev pub invariant-loop-process : goal.invariant-loop-process
invariant-loop-process l =
    (l.out.items ≡ l.fn.out.items ++ flat_map process_text (take l.process-index l.processes))
    × All HasItems (take l.process-index l.processes)
