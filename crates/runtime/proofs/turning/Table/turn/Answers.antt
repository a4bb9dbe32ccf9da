use Rattle.std.proofs.Common.{◌∙◌, refl}
use Rattle.std.proofs.lemmas.Result.{IfOk-weaker}
use Rattle.run_log.specs.Answers.{IsTurnWritten}
use Rattle.runtime.proofs.Beginnings.{turned}
use Rattle.runtime.proofs.Calls.{either_so, refused_so}
use Rattle.std.proofs.Common.{arith}
use Rattle.std.proofs.lemmas.Grind.{elements}
use Rattle.runtime.proofs.turning.Table.turn.Goals as goal

pub invariant_of-self-2 : goal.invariant_of-self-2
invariant_of-self-2 g c =
    let held = refused_so c.turn.result (λ fault refused. refused.same) c.turn.ensures.refused in
    record {
      one_part = c.turn.ensures.parts ∙ c.args.self.now.one_part;
      running = either_so c.turn.result (λ answer told. told.running) (λ same. same.stopped) c.turn.ensures.answered held ∙ c.args.self.now.running;
      begins = λ keeps.
          turned _ c.args.self.now.log.lines.items c.turn.new.self.lines.items _
          (c.args.self.now.log.same_keeps ∙ keeps) (c.args.self.now.begins keeps) (λ same. same.lines) c.args.node
          c.turn.result
          (IfOk-weaker c.turn.result _ (IsTurnWritten c.args.self.now.log.keeps c.args.node c.args.self.now.log.lines.items c.turn.new.self.lines.items)
          (λ answer told. told.written) c.turn.ensures.answered)
          held;
    }

pub returns-then-is_at_rest-clause-turned : goal.returns-then-is_at_rest-clause-turned
returns-then-is_at_rest-clause-turned g c = (c.requires.in_time, c.is_at_rest.ensures.rests (cc c.if-is_at_rest.true), refl)

pub returns-clause-goes_on : goal.returns-clause-goes_on
returns-clause-goes_on g c = grind (arith, elements)

pub returns-clause-home : goal.returns-clause-home
returns-clause-home g c = grind (arith, elements)

pub returns-clause-turned : goal.returns-clause-turned
returns-clause-turned g c = grind (arith, elements)
