use Rattle.std.proofs.Common.{◌<◌, length, arith}
use Rattle.wire.specs.Queue.{with_copy}
use Rattle.wire.proofs.Seen.{seen_there, seen_repeated, seen_room, on_ok_map, on_err_map}
use Rattle.std.proofs.lemmas.Grind.{elements}
use Rattle.wire.proofs.wire.Wire.repeat.Goals as goal

pub returns-clause-traffic : goal.returns-clause-traffic
returns-clause-traffic c =
    let queues = c.self.inside.queues.items in
    let room = c.repeat.new.self.room in
    let within : c.args.to < length queues = omega (arith, c.self.invariant, c.requires.node) in
    on_ok_map c.repeat.result c.repeat.ensures.ok (λ is. seen_repeated c.args.self.now _ c.args.to c.args.place room
    (seen_there
    (λ queue. record { flights = with_copy queue.flights c.args.place; counts = queue.counts; room = room }) queues
    c.self.inside.rules c.args.self.now c.args.to
    c.index_mut-queue.result.now c.repeat.new.self c.self.view_is within c.index_mut-queue.ensures.value is))

pub returns-clause-refused : goal.returns-clause-refused
returns-clause-refused c =
    let queues = c.self.inside.queues.items in
    let room = c.repeat.new.self.room in
    let within : c.args.to < length queues = omega (arith, c.self.invariant, c.requires.node) in
    on_err_map c.repeat.result c.repeat.ensures.err (λ is. seen_room c.args.self.now _ c.args.to room
    (seen_there (λ queue. record { flights = queue.flights; counts = queue.counts; room = room }) queues
    c.self.inside.rules c.args.self.now c.args.to
    c.index_mut-queue.result.now c.repeat.new.self c.self.view_is within c.index_mut-queue.ensures.value is))

pub returns-clause-err : goal.returns-clause-err
returns-clause-err c = grind (arith, elements)

pub returns-clause-ok : goal.returns-clause-ok
returns-clause-ok c = grind (arith, elements)

pub repeat-requires : goal.repeat-requires
repeat-requires c = grind (arith, elements)
