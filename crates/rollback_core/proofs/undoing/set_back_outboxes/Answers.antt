use Rattle.std.proofs.Common.{rules, sym, ap, ◌∙◌}
use Rattle.protocol.specs.Node.GoingBack.{outbox_set_back}
use Rattle.record.specs.Laws.Walks.{changed_next}
use Rattle.std.proofs.lemmas.Grind.{common_steps}
use Rattle.std.proofs.Common.{arith}
use Rattle.rollback_core.proofs.undoing.set_back_outboxes.Goals as goal

pub loop-outbox-preserved : goal.loop-outbox-preserved
loop-outbox-preserved c =
    changed_next (outbox_set_back c.args.image.now) _ _ _ c.outbox-item.result _ c.loop-outbox.invariant (search rules) c.outbox-item.is
    (c.set_outbox_back.ensures ∙ ap (outbox_set_back c.args.image.now) (sym c.outbox-item.is))

pub returns : goal.returns
returns c = grind (arith, common_steps)
