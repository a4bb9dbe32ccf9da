use Rattle.std.proofs.Common.{◌≡◌, ◌-◌}
use Rattle.ckpt_codec.specs.Reading.{so_many, count_at, each_as, unchanged, entries_at}
use Rattle.ckpt_codec.proofs.Loop.{behind}
use Rattle.ckpt_codec.proofs.reading.entries_of.Given as goal

abbrev pub invariant-loop : goal.invariant-loop
invariant-loop l =
    behind l.entries.items (so_many (each_as count_at) unchanged (l.count - l.counter) tt l.rest)
    ≡ entries_at l.count l.bytes
