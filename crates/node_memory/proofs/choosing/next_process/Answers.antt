use Rattle.std.proofs.Common.{Some}
use Rattle.protocol.specs.Node.Common.{network_of}
use Rattle.protocol.specs.Node.Sharing.{share_in}
use Rattle.node_memory.proofs.Choices.{chosen_place, chosen_there}
use Rattle.node_memory.proofs.choosing.next_process.Goals as goal

pub returns-in-Some-clause-there : goal.returns-in-Some-clause-there
returns-in-Some-clause-there c =
    chosen_there c.args.net.now.program c.args.inputs.now.came (share_in c.args.rooms.now c.args.share) c.args.image.now c.args.inboxes.now
    _ (Some c.in-Some.saved)
    c.in-Some.ensures.process

pub returns-in-None-clause-there : goal.returns-in-None-clause-there
returns-in-None-clause-there c =
    chosen_there c.args.net.now.program c.args.inputs.now.came (share_in c.args.rooms.now c.args.share) c.args.image.now c.args.inboxes.now
    _ c.ready_from-in-None.result c.ready_from-in-None.ensures.process

pub returns-in-Some-clause-place : goal.returns-in-Some-clause-place
returns-in-Some-clause-place c =
    chosen_place (network_of c.args.net.now.program) c.args.inputs.now.came (share_in c.args.rooms.now c.args.share) c.args.image.now
    c.args.inboxes.now _ (Some c.in-Some.saved) c.in-Some.ensures.process

pub returns-in-None-clause-place : goal.returns-in-None-clause-place
returns-in-None-clause-place c =
    chosen_place (network_of c.args.net.now.program) c.args.inputs.now.came (share_in c.args.rooms.now c.args.share) c.args.image.now
    c.args.inboxes.now _ c.ready_from-in-None.result c.ready_from-in-None.ensures.process
