use Rattle.std.proofs.Common.{refl, subst, ap, ◌∙◌}
use Rattle.std.specs.Prelude.{IsPermutation}
use Rattle.world.specs.Closing.{all_outputs, disks_of}
use Rattle.world.specs.WholeView.{world_of}
use Rattle.world.proofs.Closed.{closed_listed}
use Rattle.world.proofs.Left.{closed_left}
use Rattle.std.proofs.Common.{arith}
use Rattle.std.proofs.lemmas.Grind.{elements}
use Rattle.world.proofs.closing.World+SplitCell+D+O.close.Goals as goal

-- what was collected is all outputs, and sorting only moves them
pub returns-clause-outputs : goal.returns-clause-outputs
returns-clause-outputs g c =
    subst (λ xs. IsPermutation xs c.sort_outputs.new.outputs.items) (c.in_ok-parts.ensures.outputs ∙ ap (λ stations. all_outputs stations.items) c.into_stations.ensures)
    c.sort_outputs.ensures.moved

pub returns-clause-listed : goal.returns-clause-listed
returns-clause-listed g c =
    closed_listed g.O.Outlet.taken g.O.Outlet.failures (world_of c.args.self) c.args.self.stations.items
    c.sort_outputs.new.outputs.items c.args.self.sound refl
    (subst (λ xs. IsPermutation xs c.sort_outputs.new.outputs.items) (c.in_ok-parts.ensures.outputs ∙ ap (λ stations. all_outputs stations.items) c.into_stations.ensures)
    c.sort_outputs.ensures.moved)
    c.sort_outputs.ensures.sorted

pub returns-clause-left : goal.returns-clause-left
returns-clause-left g c =
    let moved =
    subst (λ xs. IsPermutation xs c.sort_outputs.new.outputs.items) (c.in_ok-parts.ensures.outputs ∙ ap (λ stations. all_outputs stations.items) c.into_stations.ensures)
    c.sort_outputs.ensures.moved in
    closed_left g.O.Outlet.taken g.O.Outlet.failures (λ cell. refl) (λ cell left might. might) (world_of c.args.self)
    c.args.self.stations.items c.sort_outputs.new.outputs.items _ c.args.self.sound refl
    (c.in_ok-parts.ensures.disks ∙ ap (λ stations. disks_of stations.items) c.into_stations.ensures) moved
    (closed_listed g.O.Outlet.taken g.O.Outlet.failures (world_of c.args.self) c.args.self.stations.items
    c.sort_outputs.new.outputs.items c.args.self.sound refl moved c.sort_outputs.ensures.sorted)

pub returns-clause-channels : goal.returns-clause-channels
returns-clause-channels g c = grind (arith, elements)

pub returns-clause-disks : goal.returns-clause-disks
returns-clause-disks g c = grind (arith, elements)
