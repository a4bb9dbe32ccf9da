use Rattle.std.proofs.Common.{◌+◌, refl, length, arith}
use Rattle.proc_step.proofs.Rounds.{then_on, then_stops}
use Rattle.std.proofs.lemmas.Grind.{elements}
use Rattle.proc_step.proofs.machine.Machine.play_round.Goals as goal

pub returns-in-Some : goal.returns-in-Some
returns-in-Some c =
    then_stops (length c.args.code.now) (omega (arith, c.loop-test.true)) c.loop.invariant c.in_ok-flow.ensures
    c.in-Some.is

pub loop-preserved : goal.loop-preserved
loop-preserved c = then_on (c.loop.counter + 1) refl c.loop.invariant c.in_ok-flow.ensures c.in_default.is

pub returns : goal.returns
returns c = grind (arith, elements)
