use Rattle.std.proofs.Common.{subst, sym, ap, ◌∙◌}
use Rattle.wire.specs.Staging.{HasRoomFor, IsReady}
use Rattle.wire.specs.Traffic.{Traffic, all_sent}
use Rattle.wire.specs.Wire.{WireState}
use Rattle.wire.proofs.Ready.{gone_room, still_ready, there_below}
use Rattle.wire.proofs.wire.Wire.lose_and_send.Goals as goal

pub send_batch-requires : goal.send_batch-requires
send_batch-requires c =
    subst (λ (w : WireState). HasRoomFor w.queues c.args.batch) (sym c.lose.ensures.left)
    (gone_room c.args.self.now c.args.to c.args.place c.args.batch
    (there_below c.args.self.now c.args.to c.args.place c.requires.there) c.requires.room)

pub returns : goal.returns
returns c = λ round packets all ready.
    c.send_batch.ensures round packets all
    (subst (λ (t : Traffic). IsReady t round packets c.args.batch) (sym c.lose.ensures.traffic)
    (still_ready _ c.args.to c.args.place round packets c.args.batch ready))
    ∙ ap (all_sent round packets) c.lose.ensures.traffic
