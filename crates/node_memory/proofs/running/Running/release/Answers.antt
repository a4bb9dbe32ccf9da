use Rattle.std.proofs.Common.{length, Option, subst, sym}
use Rattle.protocol.specs.Node.Common.{LogState, HasNext}
use Rattle.node_memory.specs.Handing.{IsHandedTo}
use Rattle.node_memory.proofs.Handing.{handed_to}
use Rattle.std.proofs.Common.{arith}
use Rattle.std.proofs.lemmas.Grind.{common_steps, elements}
use Rattle.node_memory.proofs.running.Running.release.Goals as goal

pub returns-clause-handed : goal.returns-clause-handed
returns-clause-handed g c =
    let taken = g.O.Outlet.taken c.args.outlet.now in
    let made = c.release-released in
    let can = subst (λ (log : Option LogState). HasNext log (length taken)) (sym c.in-Some.ensures) c.requires in
    subst (λ (log : Option LogState). IsHandedTo log taken (g.O.Outlet.taken made.new.outlet)
    (g.O.Outlet.failures c.args.outlet.now) (g.O.Outlet.failures made.new.outlet) made.result) c.in-Some.ensures
    (handed_to c.in-Some.log.now c.len-taken.result _ _ c.len-taken.ensures can _ _ made.result made.ensures.ok
    made.ensures.no_memory made.ensures.failed made.ensures.count made.ensures.history)

pub returns-in_default-clause-handed : goal.returns-in_default-clause-handed
returns-in_default-clause-handed g c = grind (arith, elements)

pub returns-then-taken-end-clause-handed : goal.returns-then-taken-end-clause-handed
returns-then-taken-end-clause-handed g c = grind (arith, elements)

pub returns-in-Err-NoMemory-clause-handed : goal.returns-in-Err-NoMemory-clause-handed
returns-in-Err-NoMemory-clause-handed g c = grind (arith, common_steps)
