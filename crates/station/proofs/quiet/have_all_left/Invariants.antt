use Rattle.std.proofs.Common.{◌≡◌, drop}
use Rattle.protocol.specs.World.Common.{outputs_of}
use Rattle.protocol.specs.World.Quiet.{have_all_left}
use Rattle.station.specs.StationView.{outlet_views}
use Rattle.station.proofs.quiet.have_all_left.Given as goal

-- all have left where those have that weren't looked at yet
abbrev pub invariant-loop-output : goal.invariant-loop-output
invariant-loop-output g l =
    let O = g.O.Outlet in
    have_all_left l.image (outputs_of (outlet_views O.taken O.failures (drop l.output-index l.outputs)))
    ≡ have_all_left l.image (outputs_of (outlet_views O.taken O.failures l.outputs))
