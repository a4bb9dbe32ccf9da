use Rattle.std.proofs.Common.{refl, subst, ℤ, List}
use Rattle.std.specs.Prelude.{OnOk}
use Rattle.output_file.specs.Output.{failures_of, taken_of}
use Rattle.world.specs.WholeView.{world_of}
use Rattle.cobaltmidge.specs.KeptOutlets.{AreInFiles}
use Rattle.cobaltmidge.proofs.Kept.{closed_streams}
use Rattle.cobaltmidge.proofs.state.close_world.Goals as goal

pub returns-clause-kept : goal.returns-clause-kept
returns-clause-kept g c =
    subst (λ (streams : List (List ℤ)). OnOk c.put_each.result (AreInFiles c.put_each.new.outlets.items streams))
    (closed_streams taken_of failures_of (world_of c.args.world) c.args.world.sound
    c.args.world.stations.items c.in-Ok.closed.1.items refl c.in-Ok.ensures.outputs c.in-Ok.ensures.listed)
    c.put_each.ensures.kept
