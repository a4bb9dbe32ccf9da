use Rattle.std.proofs.Common.{length, map}
use Rattle.protocol.specs.Node.Common.{network_of}
use Rattle.protocol.specs.World.RoomNeeds.{need_of}
use Rattle.protocol.specs.World.Stances.{stance_of}
use Rattle.station.specs.StationView.{station_view}
use Rattle.world.proofs.Walks.{IsSought}
use Rattle.world.proofs.needs.first_need.Given as goal

-- no process before this one shows what is needed
abbrev pub invariant-loop-process : goal.invariant-loop-process
invariant-loop-process g l =
    IsSought (need_of (network_of l.net.program) (stance_of (network_of l.net.program) l.inputs.came l.rooms
    (map (station_view g.O.Outlet.taken g.O.Outlet.failures) l.stations)) l.fn.node) (length (network_of l.net.program).codes)
    l.process
