use Rattle.std.proofs.Common.{◌∙◌, ap, sym}
use Rattle.protocol.specs.World.Common.{event_node}
use Rattle.replay.proofs.Choices.{choice_at_home}
use Rattle.replay.proofs.Rests.{widening_is}
use Rattle.run_log.proofs.Needed.{is_needed}
use Rattle.world.specs.WholeView.{world_of}
use Rattle.std.proofs.Common.{arith}
use Rattle.std.proofs.lemmas.Grind.{elements}
use Rattle.run_log.proofs.run_log.RunLog.pass.Goals as goal

-- a channel gets more room that a process needs
pub widen-requires-clause-needed : goal.widen-requires-clause-needed
widen-requires-clause-needed g c =
    let world = world_of c.args.self.now.armed.world in
    is_needed world c.args.node c.in-Widen.channel c.args.self.now.armed.world.sound
    (widening_is world c.args.node c.in-Widen.channel (sym c.next_turn.ensures ∙ c.in-Widen.is))

pub returns-in_ok-widen-in-Widen-clause-answered : goal.returns-in_ok-widen-in-Widen-clause-answered
returns-in_ok-widen-in-Widen-clause-answered g c =
    let wider = c.in_ok-widen-in-Widen.ensures in
    record {
      seat = record { counts = wider.counts; home = tt; told = wider.told };
      written = wider.added;
      turned = (c.requires.in_time, sym c.next_turn.ensures ∙ c.in-Widen.is, wider.wider);
      passed = wider.passed;
      running = wider.running;
    }

-- the event that was picked is one of the seat's node, and so is the job that it grants
pub returns-in-Ok-clause-answered : goal.returns-in-Ok-clause-answered
returns-in-Ok-clause-answered g c =
    let old = c.args.self.now in
    let world = world_of old.armed.world in
    let made = c.in-Ok.ensures.made in
    record {
      seat = record {
        counts = made.seat.counts;
        home = λ job granted. c.in-Ok.ensures.home job granted
            ∙ (ap event_node c.pick-event.ensures ∙ choice_at_home world old.armed.world.sound c.args.node);
        told = made.seat.told;
      };
      written = (_, made.added);
      turned = (c.requires.in_time, sym c.next_turn.ensures ∙ c.in-Make.is, rw (sym c.pick-event.ensures) made.step);
      passed = made.passed;
      running = made.running;
    }

pub returns-in-Ok-clause-goes_on : goal.returns-in-Ok-clause-goes_on
returns-in-Ok-clause-goes_on g c = grind (arith, elements)

pub returns-in_ok-widen-in-Widen-clause-goes_on : goal.returns-in_ok-widen-in-Widen-clause-goes_on
returns-in_ok-widen-in-Widen-clause-goes_on g c = grind (arith, elements)
