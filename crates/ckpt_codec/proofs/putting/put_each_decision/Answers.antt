use Rattle.std.proofs.Common.{◌<◌, length, arith}
use Rattle.ckpt_codec.specs.Spelling.{decision_text}
use Rattle.ckpt_codec.proofs.Walking.{put_more}
use Rattle.std.proofs.lemmas.Grind.{elements}
use Rattle.ckpt_codec.proofs.putting.put_each_decision.Goals as goal

pub loop-decision-preserved : goal.loop-decision-preserved
loop-decision-preserved c =
    let lt : c.loop-decision.decision-index < length c.args.decisions.now = omega arith in
    put_more decision_text c.args.decisions.now c.loop-decision.decision-index c.args.out.now.items
    c.loop-decision.out.items c.put_decision.new.out.items c.decision-item.result lt c.decision-item.is
    c.loop-decision.invariant c.in_ok-put_decision.ensures

pub returns : goal.returns
returns c = grind (arith, elements)
