use Rattle.std.proofs.Common.{◌∙◌, ap, option_copied}
use Rattle.protocol.specs.Node.Common.{ImageView}
use Rattle.protocol.specs.Node.Sharing.{share_in}
use Rattle.node_memory.proofs.Choices.{least_found, process_found}
use Rattle.std.proofs.Common.{arith}
use Rattle.std.proofs.lemmas.Grind.{common_steps}
use Rattle.node_memory.proofs.choosing.ready_from.Goals as goal

pub returns-clause-process : goal.returns-clause-process
returns-clause-process c =
    process_found c.args.net.now.program c.args.inputs.now.came (share_in c.args.rooms.now c.args.share) c.args.image.now c.args.inboxes.now
    c.deref-saved-items.result.now c.loop-saved.saved-index c.args.start
    (c.deref-saved-items.ensures.value ∙ ap (λ (image : ImageView). image.processes) c.image.view_is)
    c.loop-saved-test.false (option_copied c.loop-saved.found) c.loop-saved.invariant

pub returns-clause-number : goal.returns-clause-number
returns-clause-number c =
    least_found c.args.net.now.program c.args.inputs.now.came (share_in c.args.rooms.now c.args.share) c.args.image.now c.args.inboxes.now
    c.deref-saved-items.result.now c.loop-saved.saved-index c.args.start
    (c.deref-saved-items.ensures.value ∙ ap (λ (image : ImageView). image.processes) c.image.view_is)
    c.loop-saved-test.false (option_copied c.loop-saved.found) c.loop-saved.invariant

pub loop-saved-preserved : goal.loop-saved-preserved
loop-saved-preserved c = grind (arith, common_steps)
