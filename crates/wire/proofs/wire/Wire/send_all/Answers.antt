use Rattle.std.proofs.Common.{subst, sym, ap, ◌∙◌}
use Rattle.wire.specs.Staging.{IsReady}
use Rattle.wire.specs.Traffic.{Traffic, all_sent}
use Rattle.wire.proofs.wire.Wire.send_all.Goals as goal

pub returns-clause-ok : goal.returns-clause-ok
returns-clause-ok c =
    let packets = c.args.packets.items in
    c.send_batch.ensures c.args.round packets c.requires
    (subst (λ (t : Traffic). IsReady t c.args.round packets c.in_ok-batch.batch) (sym c.make_room.ensures.traffic)
    c.in_ok-batch.ensures.ready)
    ∙ ap (all_sent c.args.round packets) c.make_room.ensures.traffic
