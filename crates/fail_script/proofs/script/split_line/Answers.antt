use Rattle.std.proofs.Common.{arith}
use Rattle.fail_script.proofs.Parts.{part_ends, one_part}
use Rattle.fail_script.proofs.script.split_line.Goals as goal

pub returns-in-Some-clause-some : goal.returns-in-Some-clause-some
returns-in-Some-clause-some c =
    part_ends c.args.text.now c.in-Some.at c.in-Some.ensures.0.high
    (λ k below. c.in-Some.ensures.0.before k (omega arith) below) c.in-Some.ensures.1

pub returns-in-None-clause-none : goal.returns-in-None-clause-none
returns-in-None-clause-none c = one_part c.args.text.now (λ k below. c.in-None.ensures k (omega arith) below)
