use Rattle.std.proofs.Common.{arith}
use Rattle.std.proofs.lemmas.Grind.{common_steps}
use Rattle.rerun.specs.Whole.{net_in, table_in}
use Rattle.resuming.proofs.Copied.{all_copied}
use Rattle.resuming.proofs.copying.copy_ends.Goals as goal

pub returns-clause-ordered : goal.returns-clause-ordered
returns-clause-ordered c =
    let rerun = c.args.rerun.now in
    all_copied (net_in rerun) (table_in rerun).got (table_in rerun).logs c.args.home c.loop-number.number
    c.args.channels.now c.loop-number.ends.items c.loop-number-test.false c.loop-number.invariant

pub returns-clause-ends : goal.returns-clause-ends
returns-clause-ends c = grind (arith, common_steps)

pub loop-number-preserved : goal.loop-number-preserved
loop-number-preserved c = grind (arith, common_steps)
