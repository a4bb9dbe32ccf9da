use Rattle.std.proofs.Common.{ℕ, ap, ◌∙◌}
use Rattle.protocol.specs.Node.Common.{restart_after, crashed}
use Rattle.node.specs.NodeView.{node_view}
use Rattle.node.proofs.checkpoint.go_down.Goals as goal

pub returns-clause-store : goal.returns-clause-store
returns-clause-store g c = record {
  down = c.crash.ensures.down;
  left = c.crash.ensures.left;
  settled = c.crash.ensures.settled;
  any_moment = c.crash.ensures.any_moment;
  same_setup = record {
    setup = c.crash.ensures.same_setup;
    same_slot_room = c.crash.ensures.same_slot_room;
  };
  failures = c.crash.ensures.failures;
  same_failed = c.crash.ensures.same_failed;
}

pub returns-clause-state : goal.returns-clause-state
returns-clause-state g c = λ kept.
    c.stop.ensures kept
    ∙ ap (λ (n : ℕ). crashed n (node_view kept c.args.state.now))
    (c.restart_after-restart.ensures
    ∙ ap (λ (call : ℕ). restart_after c.args.state.now.armed.items call c.args.round) c.failed_call.ensures)
