use Rattle.std.proofs.Common.{sym, ◌∙◌}
use Rattle.std.proofs.lemmas.List.{nil_from_length}
use Rattle.std.specs.Vec.Iter.{into_iter_items}
use Rattle.wire.proofs.Staged.{joined_end}
use Rattle.std.proofs.lemmas.Grind.{common_steps, elements}
use Rattle.std.proofs.Common.{arith}
use Rattle.wire.proofs.staging.join_all.Goals as goal

pub returns-clause-traffic : goal.returns-clause-traffic
returns-clause-traffic c = joined_end c.loop-more.place c.loop-more.queues (into_iter_items c.loop-more.more-iterator) _
    (nil_from_length (into_iter_items c.loop-more.more-iterator)
    (sym c.loop-more.more-iterator.rest.ok.0 ∙ c.in-None.ensures.steps.0)) c.loop-more.invariant.0

pub join-requires : goal.join-requires
join-requires c = grind (arith, common_steps)

pub bounds-queues-place : goal.bounds-queues-place
bounds-queues-place c = grind (arith, elements)

pub loop-more-preserved : goal.loop-more-preserved
loop-more-preserved c = grind (arith, common_steps)
