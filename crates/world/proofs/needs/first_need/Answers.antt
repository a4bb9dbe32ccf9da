use Rattle.std.proofs.Common.{◌∙◌, sym}
use Rattle.world.proofs.Walks.{next_sought, process_below, this_found}
use Rattle.std.proofs.Common.{arith}
use Rattle.std.proofs.lemmas.Grind.{elements}
use Rattle.world.proofs.needs.first_need.Goals as goal

pub returns-in-Some : goal.returns-in-Some
returns-in-Some g c =
    this_found _ _ c.loop-process.process c.loop-process.invariant c.in-Some.channel
    (process_below c.args.net.now c.loop-process.process c.len-process-end.result c.len-process-end.ensures
    c.loop-process-test.true)
    (sym c.in-Some.is ∙ c.need_of-need.ensures)

pub loop-process-preserved : goal.loop-process-preserved
loop-process-preserved g c =
    next_sought _ _ c.loop-process.process c.loop-process.invariant
    (process_below c.args.net.now c.loop-process.process c.len-process-end.result c.len-process-end.ensures
    c.loop-process-test.true)
    (sym c.in-None.is ∙ c.need_of-need.ensures)

pub loop-process-init : goal.loop-process-init
loop-process-init g c = grind (arith, elements)

pub returns : goal.returns
returns g c = grind (arith, elements)
