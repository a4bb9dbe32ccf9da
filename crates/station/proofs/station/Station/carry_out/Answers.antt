use Rattle.node.specs.NodeOf.{view_of}
use Rattle.node.specs.Planned.{prospect_view}
use Rattle.protocol.specs.World.Common.{traffic_of}
use Rattle.station.proofs.Ready.{deed_sent}
use Rattle.station.proofs.station.Station.carry_out.Goals as goal

pub send_by-requires : goal.send_by-requires
send_by-requires g c =
    record { made = c.in_ok-ready.ensures.made.room; declined = c.in_ok-ready.ensures.declined.room }

pub returns-clause-traffic : goal.returns-clause-traffic
returns-clause-traffic g c =
    let ready = c.in_ok-ready.ensures in
    deed_sent c.args.lent.now.round (prospect_view (view_of c.args.self.now.node) c.args.prospect)
    c.in_ok-outcome.outcome
    (traffic_of c.ready_for.new.wire) (traffic_of c.args.wire.now) (traffic_of c.send_by.new.wire)
    c.ready_for.ensures.same
    (c.send_by.ensures c.args.lent.now.round _ _ ready.made.nodes ready.declined.nodes ready.made.ready
    ready.declined.ready)
