use Rattle.std.proofs.Common.{subst}
use Rattle.rollback_core.specs.StoredCounts.{HasCounts}
use Rattle.node.proofs.Restores.{epoch_count, held_counts, permanent_counts}
use Rattle.std.proofs.Common.{arith}
use Rattle.std.proofs.lemmas.Grind.{elements}
use Rattle.node.proofs.node.Node.plan_packet.Goals as goal

pub plan_packet-requires-clause-counts : goal.plan_packet-requires-clause-counts
plan_packet-requires-clause-counts g c =
    let stay = g.met.C.SlotCell.whole_may_stay in
    let store = c.args.self.now.store in
    subst HasCounts c.in-Ok.ensures.1 (record {
      permanent = permanent_counts g.C.StableCell g.C.SlotCell stay store;
      epoch = epoch_count g.C.StableCell g.C.SlotCell stay store;
      held = held_counts g.C.StableCell g.C.SlotCell stay store;
    })

pub returns-in_ok-plan-in-Ok-clause-view : goal.returns-in_ok-plan-in-Ok-clause-view
returns-in_ok-plan-in-Ok-clause-view g c = grind (arith, elements)
