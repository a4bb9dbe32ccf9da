use Rattle.std.proofs.Common.{rules, sym, ap, ◌∙◌}
use Rattle.protocol.specs.Node.GoingBack.{inbox_set_back}
use Rattle.record.specs.Laws.Walks.{changed_next}
use Rattle.rollback_core.proofs.undoing.set_back_inboxes.Goals as goal

pub loop-inbox-preserved : goal.loop-inbox-preserved
loop-inbox-preserved c =
    changed_next (inbox_set_back c.args.image.now c.args.epoch) _ _ _ c.inbox-item.result _ c.loop-inbox.invariant (search rules) c.inbox-item.is
    (c.set_inbox_back.ensures ∙ ap (inbox_set_back c.args.image.now c.args.epoch) (sym c.inbox-item.is))
