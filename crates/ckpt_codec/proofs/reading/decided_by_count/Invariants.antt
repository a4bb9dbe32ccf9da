use Rattle.std.proofs.Common.{◌≡◌, ◌-◌}
use Rattle.ckpt_codec.specs.Reading.{so_many, decided_at, past_decision, decided_so_many}
use Rattle.ckpt_codec.proofs.Loop.{behind}
use Rattle.ckpt_codec.proofs.reading.decided_by_count.Given as goal

abbrev pub invariant-loop : goal.invariant-loop
invariant-loop l =
    behind l.decisions.items
    (so_many (decided_at l.node l.nodes l.own) past_decision (l.count - l.counter) l.least l.rest)
    ≡ decided_so_many l.node l.nodes l.own l.count l.bytes
