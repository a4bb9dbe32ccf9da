use Rattle.std.proofs.Common.{◌≡◌, false}
use Rattle.run_log.specs.ArmedWorlds.{armed_view}
use Rattle.runtime.specs.Ending.{is_over}
use Rattle.runtime.specs.Turning.{CameTo, is_late, progress, turn_node}
use Rattle.runtime.proofs.turning.take_turns.Given as goal

-- it is this node's turn, so many turns led to where the world is and as far as the script is passed, and no line is late
abbrev pub invariant-loop-turn : goal.invariant-loop-turn
invariant-loop-turn g l = record {
  node : l.node ≡ turn_node l.nodes l._turn;
  came : CameTo (is_over l.channels l.bounds) l.nodes g.ThisRun.Run.rooms g.ThisRun.Run.script l._turn
      (progress (armed_view l.fn.table.log.armed) l.fn.table.log.passed) (progress (armed_view l.table.log.armed) l.table.log.passed);
  in_time : is_late g.ThisRun.Run.script (progress (armed_view l.table.log.armed) l.table.log.passed) ≡ false;
}
