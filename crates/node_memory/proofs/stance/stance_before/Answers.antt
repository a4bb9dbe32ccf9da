use Rattle.std.proofs.Common.{◌∙◌, ap, sym}
use Rattle.proc_step.specs.NextView.{next_view}
use Rattle.proc_step.specs.declared.next.NextAct.{NextAct}
use Rattle.protocol.specs.Node.Stances.{stance_before}
use Rattle.node_memory.proofs.stance.stance_before.Goals as goal

pub returns-in-Put : goal.returns-in-Put
returns-in-Put c =
    λ net same. c.stance_at_put.ensures net c.args.inputs.now.came c.args.inboxes.now same
    ∙ ap (λ (act : NextAct). stance_before net c.args.inputs.now.came c.args.rooms.now c.args.image.now c.args.inboxes.now
    (next_view act)) (sym c.in-Put.is)
