use Rattle.std.proofs.Common.{rules, sym, ap, ◌∙◌}
use Rattle.protocol.specs.Node.GoingBack.{handled}
use Rattle.record.specs.Laws.Walks.{changed_next}
use Rattle.std.proofs.lemmas.Grind.{common_steps}
use Rattle.std.proofs.Common.{arith}
use Rattle.rollback_core.proofs.undoing.note_epoch.Goals as goal

pub loop-inbox-preserved : goal.loop-inbox-preserved
loop-inbox-preserved c =
    changed_next (handled c.args.channel c.args.epoch) _ _ _ c.inbox-item.result _ c.loop-inbox.invariant (search rules) c.inbox-item.is
    (c.note_at.ensures ∙ ap (handled c.args.channel c.args.epoch) (sym c.inbox-item.is))

pub returns : goal.returns
returns c = grind (arith, common_steps)
