use Rattle.std.proofs.Common.{◌≡◌, ◌-◌}
use Rattle.ckpt_codec.specs.Reading.{so_many, pass_at, each_as, unchanged, so_many_passes_at}
use Rattle.ckpt_codec.proofs.Loop.{behind}
use Rattle.ckpt_codec.proofs.processes.each_pass_of.Given as goal

abbrev pub invariant-loop : goal.invariant-loop
invariant-loop l =
    behind l.left.items (so_many (each_as pass_at) unchanged (l.count - l.counter) tt l.rest)
    ≡ so_many_passes_at l.count l.bytes
