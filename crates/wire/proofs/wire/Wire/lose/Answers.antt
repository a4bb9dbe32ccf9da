use Rattle.std.proofs.Common.{◌<◌, length, arith}
use Rattle.wire.specs.Queue.{without}
use Rattle.wire.proofs.Seen.{seen_there, seen_without}
use Rattle.std.proofs.lemmas.Grind.{elements}
use Rattle.wire.proofs.wire.Wire.lose.Goals as goal

pub returns-clause-traffic : goal.returns-clause-traffic
returns-clause-traffic c =
    let queues = c.self.inside.queues.items in
    let within : c.args.to < length queues = omega (arith, c.self.invariant, c.requires.node) in
    seen_without c.args.self.now _ c.args.to c.args.place
    (seen_there (λ queue. without queue c.args.place) queues c.self.inside.rules c.args.self.now c.args.to
    c.index_mut-queue.result.now c.take-lost.new.self
    c.self.view_is within c.index_mut-queue.ensures.value c.take-lost.ensures.left)

pub returns-clause-left : goal.returns-clause-left
returns-clause-left c = grind (arith, elements)

pub take-lost-requires : goal.take-lost-requires
take-lost-requires c = grind (arith, elements)
