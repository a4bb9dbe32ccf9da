use Rattle.arrived.proofs.Listing.{listed_next, others_counted}
use Rattle.arrived.proofs.inputs.list_each.Goals as goal

pub loop-history-preserved : goal.loop-history-preserved
loop-history-preserved c = record {
  listed = listed_next c.loop-history.lists.items _ _ c.in-Some.history _ _ _ c.in-Some.ensures.steps.0
      c.loop-history.invariant.listed c.from_history.ensures c.in_ok-push.ensures.items;
  counted = others_counted c.in-Some.history _ _ c.in-Some.ensures.steps.0 c.loop-history.invariant.counted;
}
