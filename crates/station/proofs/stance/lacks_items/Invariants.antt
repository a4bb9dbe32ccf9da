use Rattle.std.proofs.Common.{◌≡◌, ◌==◌, drop, find}
use Rattle.protocol.specs.World.Common.{OutputView, outputs_of}
use Rattle.station.specs.StationView.{outlet_views}
use Rattle.station.proofs.stance.lacks_items.Given as goal

-- the outlet is among those that weren't looked at yet
abbrev pub invariant-loop-output : goal.invariant-loop-output
invariant-loop-output g l =
    let all = outputs_of (outlet_views g.O.Outlet.taken g.O.Outlet.failures l.outputs) in
    let rest = outputs_of (outlet_views g.O.Outlet.taken g.O.Outlet.failures (drop l.output-index l.outputs)) in
    find (λ (output : OutputView). output.channel == l.channel) rest
    ≡ find (λ (output : OutputView). output.channel == l.channel) all
