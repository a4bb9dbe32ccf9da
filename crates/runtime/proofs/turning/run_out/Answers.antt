use Rattle.run_log.specs.ArmedWorlds.{armed_view}
use Rattle.runtime.specs.Turning.{progress}
use Rattle.runtime.proofs.Turns.{taken_to}
use Rattle.runtime.proofs.turning.run_out.Goals as goal

pub returns-in-Ok-clause-taken : goal.returns-in-Ok-clause-taken
returns-in-Ok-clause-taken g c =
    taken_to _ c.args.nodes g.ThisRun.Run.rooms g.ThisRun.Run.script
    (progress (armed_view c.args.table.now.log.armed) c.args.table.now.log.passed) (armed_view c.take_turns.new.table.log.armed)
    c.in-Ok.end c.in-Ok.ensures.ended c.in-Ok.ensures.came
