use Rattle.std.proofs.Common.{◌≡◌, drop}
use Rattle.station.specs.StationView.{outlet_views}
use Rattle.protocol.specs.World.Common.{first_waiting}
use Rattle.station.proofs.releasing.next_output.Given as goal

-- what is found from here on is what is found in all
abbrev pub invariant-loop-j : goal.invariant-loop-j
invariant-loop-j g l =
    let O = g.O.Outlet in
    first_waiting l.kept l.round l.j (outlet_views O.taken O.failures (drop l.j l.outputs))
    ≡ first_waiting l.kept l.round 0 (outlet_views O.taken O.failures l.outputs)
