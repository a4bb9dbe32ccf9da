use Rattle.std.proofs.Common.{◌∙◌, refl, ap, sym}
use Rattle.std.specs.Prelude.{is_none}
use Rattle.std.proofs.lemmas.Result.{IfErr-weaker, IfOk-weaker}
use Rattle.replay.proofs.Choices.{choice_at_home}
use Rattle.world.specs.WholeView.{world_of}
use Rattle.run_log.proofs.Stepped.{answered_before, makes_next, refused_before, some_so}
use Rattle.std.proofs.Common.{arith}
use Rattle.std.proofs.lemmas.Grind.{elements}
use Rattle.run_log.proofs.run_log.RunLog.turn.Goals as goal

pub returns-then-self-clause-answered : goal.returns-then-self-clause-answered
returns-then-self-clause-answered g c =
    let said = c.in_ok-be_stopped.ensures in
    record {
      seat = record { counts = said.counts; home = tt; told = tt };
      written = said.lines;
      turned = said.world;
      passed = said.passed;
      running = said.running;
    }

-- the event that is next for a node is the node's own, and so is the job that it grants
pub returns-in-Some-clause-answered : goal.returns-in-Some-clause-answered
returns-in-Some-clause-answered g c =
    let old = c.args.self.now in
    let world = world_of old.armed.world in
    let made = some_so _ _ _ c.in-Some.is c.in_ok-reply.ensures.made in
    record {
      seat = record {
        counts = made.seat.counts;
        home = λ job granted. some_so _ _ _ c.in-Some.is c.in_ok-reply.ensures.home job granted
            ∙ choice_at_home world old.armed.world.sound c.args.node;
        told = made.seat.told;
      };
      written = (_, made.added);
      turned = (sym c.is_line_late.ensures ∙ cc c.if-is_line_late.false, makes_next world c.args.node (sym c.in_ok-reply.ensures.passes ∙ ap is_none c.in-Some.is), made.step);
      passed = made.passed;
      running = made.running;
    }

-- where the turn would pass, nothing is done before
pub returns-in-None-clause-answered : goal.returns-in-None-clause-answered
returns-in-None-clause-answered g c =
    let none = c.in_ok-reply.ensures.none (rw c.in-None.is refl) in
    IfOk-weaker c.pass.result _ _ (λ answer told. answered_before c.args.node answer c.args.self.now c.step.new.self c.pass.new.self _ _ _ none.0 none.1 told)
    c.pass.ensures.answered

pub returns-in-None-clause-refused : goal.returns-in-None-clause-refused
returns-in-None-clause-refused g c =
    let none = c.in_ok-reply.ensures.none (rw c.in-None.is refl) in
    IfErr-weaker c.pass.result _ _ (λ fault refused. refused_before fault c.args.self.now c.step.new.self c.pass.new.self _ _ _ none.0 none.1 refused)
    c.pass.ensures.refused

pub returns-in-None-clause-stopped : goal.returns-in-None-clause-stopped
returns-in-None-clause-stopped g c = grind (arith, elements)

pub returns-in-Some-clause-stopped : goal.returns-in-Some-clause-stopped
returns-in-Some-clause-stopped g c = grind (arith, elements)

pub returns-in-Some-clause-goes_on : goal.returns-in-Some-clause-goes_on
returns-in-Some-clause-goes_on g c = grind (arith, elements)

pub returns-then-is_line_late-clause-stopped : goal.returns-then-is_line_late-clause-stopped
returns-then-is_line_late-clause-stopped g c = grind (arith, elements)

pub returns-then-is_at_rest-clause-stopped : goal.returns-then-is_at_rest-clause-stopped
returns-then-is_at_rest-clause-stopped g c = grind (arith, elements)
