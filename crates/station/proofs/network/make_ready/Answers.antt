use Rattle.std.proofs.Common.{List, sym, subst}
use Rattle.std.specs.Prelude.{All}
use Rattle.wire.specs.Staging.{IsReady}
use Rattle.protocol.specs.World.Common.{Traffic, traffic_of, Sending}
use Rattle.wire.specs.Traffic.{AreNodes}
use Rattle.wire.proofs.Ready.{same_room}
use Rattle.station.proofs.Packets.{are_nodes}
use Rattle.std.proofs.Common.{arith}
use Rattle.std.proofs.lemmas.Grind.{common_steps}
use Rattle.station.proofs.network.make_ready.Goals as goal

pub stage-requires : goal.stage-requires
stage-requires c =
    are_nodes c.args.packets.now c.in_ok-sendings.sendings.items c.in_ok-sendings.ensures.sendings
    c.in_ok-sendings.ensures.allowed

pub returns-then-is_empty-clause-more : goal.returns-then-is_empty-clause-more
returns-then-is_empty-clause-more c = same_room c.args.wire.now.queues

pub returns-clause-ready : goal.returns-clause-ready
returns-clause-ready c =
    let packets = c.args.packets.now in
    let batch = c.in_ok-batch.batch in
    let spelled = c.in_ok-sendings.ensures.sendings in
    record {
      nodes = subst (All AreNodes) spelled
          (are_nodes packets c.in_ok-sendings.sendings.items spelled c.in_ok-sendings.ensures.allowed);
      ready = subst (λ (list : List Sending). IsReady (traffic_of c.make_room.new.self) c.args.round list batch) spelled
          (subst (λ (t : Traffic). IsReady t c.args.round c.in_ok-sendings.sendings.items batch)
          (sym c.make_room.ensures.traffic) c.in_ok-batch.ensures.ready);
      room = c.in_ok-make_room.ensures.room;
    }

pub returns-then-is_empty-clause-ready : goal.returns-then-is_empty-clause-ready
returns-then-is_empty-clause-ready c = grind (arith, common_steps)
