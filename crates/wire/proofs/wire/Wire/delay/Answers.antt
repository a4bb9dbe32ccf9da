use Rattle.std.proofs.Common.{◌<◌, length, arith}
use Rattle.wire.specs.Queue.{with_delay}
use Rattle.wire.proofs.Seen.{seen_there, seen_delayed}
use Rattle.std.proofs.lemmas.Grind.{elements}
use Rattle.wire.proofs.wire.Wire.delay.Goals as goal

pub returns-clause-traffic : goal.returns-clause-traffic
returns-clause-traffic c =
    let queues = c.self.inside.queues.items in
    let within : c.args.to < length queues = omega (arith, c.self.invariant, c.requires.node) in
    seen_delayed c.args.self.now _ c.args.to c.args.place c.args.rounds
    (seen_there
    (λ queue. record
    { flights = with_delay queue.flights c.args.place c.args.rounds; counts = queue.counts; room = queue.room })
    queues c.self.inside.rules
    c.args.self.now c.args.to c.index_mut-queue.result.now c.delay.new.self c.self.view_is within
    c.index_mut-queue.ensures.value c.delay.ensures)

pub delay-requires : goal.delay-requires
delay-requires c = grind (arith, elements)

pub returns-clause-late : goal.returns-clause-late
returns-clause-late c = grind (arith, elements)
