use Rattle.std.proofs.Common.{◌≡◌, ◌-◌}
use Rattle.ckpt_codec.specs.Reading.{so_many, item_at, each_as, unchanged, items_at}
use Rattle.ckpt_codec.proofs.Loop.{behind}
use Rattle.ckpt_codec.proofs.processes.items_of.Given as goal

abbrev pub invariant-loop : goal.invariant-loop
invariant-loop l =
    behind l.items.items (so_many (each_as item_at) unchanged (l.count - l.counter) tt l.rest)
    ≡ items_at l.count l.bytes
