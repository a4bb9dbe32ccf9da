use Rattle.std.proofs.Common.{◌<◌, length, arith}
use Rattle.ckpt_store.proofs.Decisions.{below_more}
use Rattle.std.proofs.lemmas.Grind.{elements}
use Rattle.ckpt_store.proofs.deciding.copies_below.Goals as goal

pub loop-decision-preserved : goal.loop-decision-preserved
loop-decision-preserved c =
    let lt : c.loop-decision.decision-index < length c.args.decisions.now = omega arith in
    below_more c.args.number c.args.decisions.now c.loop-decision.decision-index c.decision-item.result
    c.loop-decision.all.items c.push_some.new.all.items _ lt c.decision-item.is c.loop-decision.invariant
    c.in_ok-copy.ensures c.in_ok-push_some.ensures

pub returns : goal.returns
returns c = grind (arith, elements)
