use Rattle.rerun.specs.Whole.{inputs_in, net_in, table_in}
use Rattle.rerun.proofs.LastSweep.{rests_then}
use Rattle.rerun.proofs.rerun.Rerun.run.Goals as goal

pub returns-in-Ok-false-clause-stopped : goal.returns-in-Ok-false-clause-stopped
returns-in-Ok-false-clause-stopped c =
    let rerun = c.args.self.now in
    let between = c.loop-round.self in
    rests_then (net_in rerun) (net_in between) (inputs_in rerun) (inputs_in between) c.args.limits.now
    c.loop-round.round
    c.args.most (table_in rerun) (table_in between) (table_in c.sweep.new.self) c.loop-round.invariant.net
    c.loop-round.invariant.inputs c.loop-round-test.true c.loop-round.invariant.swept c.in-Ok-false.ensures.swept
    (c.in-Ok-false.ensures.rests c.in-Ok-false.field-0-test)
