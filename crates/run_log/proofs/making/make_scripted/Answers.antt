use Rattle.replay.specs.Plain.{run_view}
use Rattle.replay.specs.declared.kept.Maker.TheVariants.{Driver}
use Rattle.world.specs.Events.{reply_view}
use Rattle.run_log.proofs.Kept.{unwritten_line, unwritten_of, written}
use Rattle.run_log.proofs.making.make_scripted.Goals as goal

pub returns-then-keeps-clause-added : goal.returns-then-keeps-clause-added
returns-then-keeps-clause-added g c =
    written reply_view c.args.keeps Driver (run_view c.args.event) c.make_kept_line.result c.args.lines.now.items
    c.make_kept_line.new.lines.items c.if-keeps.true c.make_kept_line.ensures.added

pub returns-else-keeps-clause-added : goal.returns-else-keeps-clause-added
returns-else-keeps-clause-added g c =
    unwritten_of reply_view c.args.keeps Driver (run_view c.args.event) c.play.result c.args.lines.now.items
    (λ answer. unwritten_line c.args.keeps Driver c.args.event answer c.args.lines.now.items c.if-keeps.false)
