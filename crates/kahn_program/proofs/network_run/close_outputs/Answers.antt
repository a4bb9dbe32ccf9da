use Rattle.std.proofs.Common.{refl, subst, ℤ, List}
use Rattle.std.specs.Prelude.{OnOk}
use Rattle.cobaltmidge.specs.Common.{world_of}
use Rattle.cobaltmidge.proofs.Kept.{closed_streams}
use Rattle.kahn_program.proofs.network_run.close_outputs.Goals as goal

pub returns-clause-kept : goal.returns-clause-kept
returns-clause-kept g c =
    subst (λ (streams : List (List ℤ)). OnOk c.close-2.result (g.K.Keeper.has_kept c.close-2.new.self streams))
    (closed_streams g.O.Outlet.taken g.O.Outlet.failures (world_of c.args.world) c.args.world.sound
    c.args.world.stations.items c.in-Ok.closed.1.items refl c.in-Ok.ensures.outputs c.in-Ok.ensures.listed)
    c.close-2.ensures.kept
