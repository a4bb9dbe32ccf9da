use Rattle.std.proofs.Common.{◌∙◌, arith}
use Rattle.proc_step.proofs.Machines.{more_remain, none_remain}
use Rattle.proc_step.proofs.machine.pass_through.Goals as goal

pub returns-then-remaining-gt1-clause-remains : goal.returns-then-remaining-gt1-clause-remains
returns-then-remaining-gt1-clause-remains c =
    (more_remain c.args.left.now.items c.pop.new.self.items c.in-Some.remaining c.in-Some.ensures.items
    (omega (arith, c.if-remaining-gt1.true))).0

pub returns-then-remaining-gt1-clause-back : goal.returns-then-remaining-gt1-clause-back
returns-then-remaining-gt1-clause-back c =
    λ so. c.in_ok-push-in-Some.ensures.items
    ∙ (more_remain c.args.left.now.items c.pop.new.self.items c.in-Some.remaining c.in-Some.ensures.items
    (omega (arith, c.if-remaining-gt1.true))).1

pub returns-else-remaining-gt1-clause-remains : goal.returns-else-remaining-gt1-clause-remains
returns-else-remaining-gt1-clause-remains c =
    (none_remain c.args.left.now.items c.pop.new.self.items c.in-Some.remaining c.in-Some.ensures.items
    (omega (arith, c.if-remaining-gt1.false))).0

pub returns-else-remaining-gt1-clause-on : goal.returns-else-remaining-gt1-clause-on
returns-else-remaining-gt1-clause-on c =
    λ so. (none_remain c.args.left.now.items c.pop.new.self.items c.in-Some.remaining c.in-Some.ensures.items
    (omega (arith, c.if-remaining-gt1.false))).1
