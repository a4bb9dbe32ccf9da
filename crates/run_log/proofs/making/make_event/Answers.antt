use Rattle.replay.specs.Armed.{OfWorld}
use Rattle.replay.specs.declared.kept.Maker.TheVariants.{Node}
use Rattle.world.specs.Events.{event_view, reply_view}
use Rattle.run_log.proofs.Kept.{unwritten, unwritten_of, written}
use Rattle.std.proofs.Common.{arith}
use Rattle.std.proofs.lemmas.Grind.{elements}
use Rattle.run_log.proofs.making.make_event.Goals as goal

pub returns-then-keeps-clause-added : goal.returns-then-keeps-clause-added
returns-then-keeps-clause-added g c =
    written reply_view c.args.keeps (Node c.args.node) (OfWorld (event_view c.args.event)) c.make_kept.result c.args.lines.now.items
    c.make_kept.new.lines.items c.if-keeps.true c.make_kept.ensures.added

pub returns-else-keeps-clause-added : goal.returns-else-keeps-clause-added
returns-else-keeps-clause-added g c =
    unwritten_of reply_view c.args.keeps (Node c.args.node) (OfWorld (event_view c.args.event)) c.apply.result c.args.lines.now.items
    (λ answer. unwritten c.args.keeps (Node c.args.node) c.args.event answer c.args.lines.now.items c.if-keeps.false)

pub returns-else-keeps-clause-refused : goal.returns-else-keeps-clause-refused
returns-else-keeps-clause-refused g c = grind (arith, elements)
