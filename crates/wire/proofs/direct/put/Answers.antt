use Rattle.std.proofs.Common.{◌<◌, [], length, arith}
use Rattle.wire.proofs.Roomy.{room_kept}
use Rattle.wire.proofs.Staged.{staged_next}
use Rattle.std.proofs.lemmas.Grind.{elements}
use Rattle.wire.proofs.direct.put.Goals as goal

pub returns-clause-sent : goal.returns-clause-sent
returns-clause-sent c =
    let s = c.args.sending in
    let within : s.to < length c.args.queues.now = omega (arith, c.requires.nodes.1, c.requires.there) in
    staged_next c.args.queues.now [] s.from s.to s.packet c.args.round c.index-queues-sending.result c.put.new.self within
    c.put.ensures.sent

pub returns-clause-room : goal.returns-clause-room
returns-clause-room c count other has =
    let s = c.args.sending in
    let within : s.to < length c.args.queues.now = omega (arith, c.requires.nodes.1, c.requires.there) in
    room_kept c.args.queues.now s.to c.index-queues-sending.result c.put.new.self 1 within c.put.ensures.room count
    other.to has

pub put-requires-clause-room : goal.put-requires-clause-room
put-requires-clause-room c = grind (arith, elements)
