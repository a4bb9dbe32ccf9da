use Rattle.std.proofs.Common.{rules, ◌≡◌, List, refl, subst}
use Rattle.protocol.specs.Node.Common.{Channel}
use Rattle.runtime.specs.Ending.{IsOver}
use Rattle.world.specs.WholeView.{world_of}
use Rattle.runtime.proofs.Nowhere.{leads_nowhere, runs_nowhere}
use Rattle.std.proofs.Common.{arith}
use Rattle.std.proofs.lemmas.Grind.{elements}
use Rattle.runtime.proofs.playing.run_world.Goals as goal

-- where the run didn't begin nothing is written, and the world is the one that was handed in
pub returns-in_default-clause-leads : goal.returns-in_default-clause-leads
returns-in_default-clause-leads g c = λ kept. leads_nowhere _ _ _ _ _ c.unbegun.ensures.none (rw c.unbegun.ensures.same refl)

pub returns-in_default-clause-run : goal.returns-in_default-clause-run
returns-in_default-clause-run g c = runs_nowhere _ _ _ _ (rw c.unbegun.ensures.same refl)

pub returns-in_default-new-clause-leads : goal.returns-in_default-new-clause-leads
returns-in_default-new-clause-leads g c = λ kept. leads_nowhere _ _ _ _ _ c.unbegun-in_default-new.ensures.none (rw c.unbegun-in_default-new.ensures.same refl)

pub returns-in_default-new-clause-run : goal.returns-in_default-new-clause-run
returns-in_default-new-clause-run g c = runs_nowhere _ _ _ _ (rw c.unbegun-in_default-new.ensures.same refl)

pub returns-in_default-new-2-clause-leads : goal.returns-in_default-new-2-clause-leads
returns-in_default-new-2-clause-leads g c = λ kept. leads_nowhere _ _ _ _ _ c.unbegun-in_default-new-2.ensures.none (rw c.unbegun-in_default-new-2.ensures.same refl)

pub returns-in_default-new-2-clause-run : goal.returns-in_default-new-2-clause-run
returns-in_default-new-2-clause-run g c = runs_nowhere _ _ _ _ (rw c.unbegun-in_default-new-2.ensures.same refl)

-- the share that was taken is of the world's own network
pub returns-clause-over : goal.returns-clause-over
returns-clause-over g c =
    let same : c.as_slice-channels.result.now ≡ c.args.world.net.value.program.channels.items = search rules in
    subst (λ (channels : List Channel). IsOver channels c.args.bounds (world_of c.play.result.world) c.play.result.end) same
    c.play.ensures.over

pub returns-in_default-new-clause-rounds : goal.returns-in_default-new-clause-rounds
returns-in_default-new-clause-rounds g c = grind (arith, elements)

pub returns-in_default-new-2-clause-rounds : goal.returns-in_default-new-2-clause-rounds
returns-in_default-new-2-clause-rounds g c = grind (arith, elements)

pub returns-in_default-clause-begun : goal.returns-in_default-clause-begun
returns-in_default-clause-begun g c = grind (arith, elements)

pub play-requires-clause-unwritten : goal.play-requires-clause-unwritten
play-requires-clause-unwritten g c = grind (arith, elements)

pub returns-in_default-new-2-clause-begun : goal.returns-in_default-new-2-clause-begun
returns-in_default-new-2-clause-begun g c = grind (arith, elements)

pub returns-in_default-new-clause-over : goal.returns-in_default-new-clause-over
returns-in_default-new-clause-over g c = grind (arith, elements)

pub overflow_cast-nodes : goal.overflow_cast-nodes
overflow_cast-nodes g c = grind (arith, elements)

pub returns-in_default-new-2-clause-over : goal.returns-in_default-new-2-clause-over
returns-in_default-new-2-clause-over g c = grind (arith, elements)

pub returns-clause-rounds : goal.returns-clause-rounds
returns-clause-rounds g c = grind (arith, elements)

pub returns-in_default-new-clause-begun : goal.returns-in_default-new-clause-begun
returns-in_default-new-clause-begun g c = grind (arith, elements)
