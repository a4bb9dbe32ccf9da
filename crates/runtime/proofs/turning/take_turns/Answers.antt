use Rattle.std.proofs.Common.{◌≡◌, ◌∙◌, ℕ, true, false, sym, subst}
use Rattle.replay.specs.Armed.{ArmedView}
use Rattle.replay.specs.Replay.{is_line_late}
use Rattle.run_log.specs.ArmedWorlds.{armed_view}
use Rattle.runtime.specs.Ending.{goes_on}
use Rattle.runtime.specs.Turning.{IsLineBefore, IsNodeTurn, progress}
use Rattle.runtime.proofs.Turns.{first_node, more_turns, not_over}
use Rattle.runtime.proofs.turning.take_turns.Goals as goal

pub loop-turn-init : goal.loop-turn-init
loop-turn-init g c =
    let first = progress (armed_view c.args.table.now.log.armed) c.args.table.now.log.passed in
    let now = progress (armed_view c.pass_lines_before.new.self.log.armed) c.pass_lines_before.new.self.log.passed in
    record {
      node = first_node c.args.nodes;
      came = subst (λ (n : ℕ). IsLineBefore g.ThisRun.Run.rooms g.ThisRun.Run.script n first now) (first_node c.args.nodes)
          c.in_ok-pass_lines_before.ensures.passed;
      in_time = c.in_ok-pass_lines_before.ensures.passed.caught_up.none;
    }

pub loop-turn-preserved : goal.loop-turn-preserved
loop-turn-preserved g c =
    let rooms = g.ThisRun.Run.rooms in
    let script = g.ThisRun.Run.script in
    let table = c.loop-turn.table.log in
    let before = progress (armed_view table.armed) table.passed in
    let asked = c.end-end.new.self.log in
    let turned = c.take_turn.new.self.log in
    let after = armed_view turned.armed in
    let passed = c.pass_lines_before-in-loop-turn.new.self.log in
    let now = progress (armed_view passed.armed) passed.passed in
    let next = c.node_after-node.ensures c.loop-turn._turn c.loop-turn.invariant.node in
    let going : goes_on c.end-end.result ≡ true = sym c.goes_on.ensures ∙ cc c.if-not-goes_on.false in
    let over = not_over (goes_on c.end-end.result) _ c.end-end.ensures.exact going in
    let count : turned.passed ≡ table.passed = c.take_turn.ensures.same ∙ c.end-end.ensures.same.1 in
    record {
      node = next;
      came = more_turns _ c.args.nodes rooms script c.loop-turn._turn _ before now after c.loop-turn.invariant.came over
          (subst (λ (n : ℕ). IsNodeTurn rooms n before.armed after) c.loop-turn.invariant.node
          (subst (λ (a : ArmedView). IsNodeTurn rooms c.loop-turn.node a after) c.end-end.ensures.same.0 c.in_ok-take_turn.ensures.turn))
          (subst (λ (n : ℕ). IsLineBefore rooms script n (progress after table.passed) now) next
          (subst (λ (n : ℕ). IsLineBefore rooms script c.node_after-node.result (progress after n) now) count
          c.in_ok-pass_lines_before-2.ensures.passed));
      in_time = c.in_ok-pass_lines_before-2.ensures.passed.caught_up.none;
    }

-- who asks whether the run is over leaves the world and the script as they are
pub take_turn-requires : goal.take_turn-requires
take_turn-requires g c =
    let asked = c.end-end.new.self.log in
    let table = c.loop-turn.table.log in
    record {
      in_time = subst (λ (n : ℕ). is_line_late g.ThisRun.Run.script n asked.armed.world.round ≡ false) (sym c.end-end.ensures.same.1)
          (subst (λ (a : ArmedView). is_line_late g.ThisRun.Run.script table.passed a.world.round ≡ false) (sym c.end-end.ensures.same.0)
          c.loop-turn.invariant.in_time);
    }
