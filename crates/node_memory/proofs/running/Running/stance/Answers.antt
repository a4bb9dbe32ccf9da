use Rattle.std.proofs.Common.{◌∙◌, ap}
use Rattle.protocol.specs.Node.Common.{network_of, running_node}
use Rattle.protocol.specs.Node.Stances.{stance_there}
use Rattle.node_memory.specs.RunningView.{running_view}
use Rattle.node_memory.proofs.running.Running.stance.Goals as goal

pub returns-in-Some : goal.returns-in-Some
returns-in-Some c =
    λ kept. c.stance_of.ensures kept
    ∙ ap (stance_there (network_of c.args.net.now.program) c.args.inputs.now.came c.args.rooms.now
    (running_node kept c.args.version (running_view c.args.self.now))) c.in-Some.ensures
