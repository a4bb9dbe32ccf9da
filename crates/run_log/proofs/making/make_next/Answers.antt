use Rattle.replay.specs.Armed.{OfWorld}
use Rattle.replay.specs.declared.kept.Maker.TheVariants.{Node}
use Rattle.protocol.specs.World.Choice.{choice}
use Rattle.world.specs.Events.{reply_view}
use Rattle.world.specs.WholeView.{world_of}
use Rattle.run_log.proofs.Kept.{unwritten_next, written_next}
use Rattle.run_log.proofs.making.make_next.Goals as goal

pub returns-then-keeps-clause-added : goal.returns-then-keeps-clause-added
returns-then-keeps-clause-added g c =
    let next = choice (world_of c.args.world.now.world) c.args.node in
    written_next reply_view c.args.keeps (Node c.args.node) (OfWorld next) c.make_kept_next.result c.args.lines.now.items
    c.make_kept_next.new.lines.items c.if-keeps.true c.make_kept_next.ensures.added

pub returns-else-keeps-clause-added : goal.returns-else-keeps-clause-added
returns-else-keeps-clause-added g c =
    let next = choice (world_of c.args.world.now.world) c.args.node in
    unwritten_next reply_view c.args.keeps (Node c.args.node) next c.step.result c.args.lines.now.items c.if-keeps.false
