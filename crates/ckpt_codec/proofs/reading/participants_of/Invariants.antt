use Rattle.std.proofs.Common.{◌≡◌, ◌-◌}
use Rattle.ckpt_codec.specs.Reading.{so_many, participant_at, past_participant, participants_at}
use Rattle.ckpt_codec.proofs.Loop.{behind}
use Rattle.ckpt_codec.proofs.reading.participants_of.Given as goal

abbrev pub invariant-loop : goal.invariant-loop
invariant-loop l =
    behind l.participants.items
    (so_many (participant_at l.node l.nodes) past_participant (l.count - l.counter) l.least l.rest)
    ≡ participants_at l.node l.nodes l.count l.bytes
