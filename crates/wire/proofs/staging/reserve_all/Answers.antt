use Rattle.std.proofs.Common.{◌∙◌, ℕ, ◌<◌, ◌≤◌, length, refl, ap, subst, arith, length-set}
use Rattle.wire.specs.Queue.{QueueState}
use Rattle.wire.proofs.Ready.{more_then, same_room, set_room}
use Rattle.wire.proofs.Staged.{reserved_next, roomy_next}
use Rattle.wire.proofs.staging.reserve_all.Goals as goal

pub returns-in_err-reserve-clause-same : goal.returns-in_err-reserve-clause-same
returns-in_err-reserve-clause-same c =
    reserved_next c.loop-place.queues c.loop-place.place c.index-queues-place.result c.reserve.new.self
    c.reserve.new.self.room _ (omega (arith, c.loop-place-test.true, c.loop-place.invariant.1))
    c.reserve.ensures.same c.loop-place.invariant.0

pub loop-place-init : goal.loop-place-init
loop-place-init c = (refl, refl, tt, same_room c.args.queues.now)

pub loop-place-preserved : goal.loop-place-preserved
loop-place-preserved c =
    let i = c.loop-place.invariant in
    let within : c.loop-place.place < length c.loop-place.queues = omega (arith, c.loop-place-test.true, i.1) in
    let below : c.loop-place.place < length c.args.staged.now =
    omega (arith, c.loop-place-test.true, i.1, c.requires) in (
      reserved_next c.loop-place.queues c.loop-place.place c.index-queues-place.result c.reserve.new.self
          c.reserve.new.self.room _ within c.reserve.ensures.same i.0,
      length-set c.loop-place.queues c.loop-place.place c.reserve.new.self ∙ i.1,
      roomy_next c.loop-place.queues c.args.staged.now c.loop-place.place c.index-staged-place.result
          c.reserve.new.self within below i.2
          (subst (λ (n : ℕ). n ≤ c.reserve.new.self.room)
          (c.len.ensures ∙ ap (λ (q : QueueState). length q.flights) c.index-staged-place.is)
          c.in_ok-reserve.ensures.ok),
      more_then c.args.queues.now c.loop-place.queues _ i.3
          (set_room c.loop-place.queues c.loop-place.place c.index-queues-place.result c.reserve.new.self within
          c.reserve.ensures.more),
    )

pub returns-in_err-reserve-clause-more : goal.returns-in_err-reserve-clause-more
returns-in_err-reserve-clause-more c =
    let i = c.loop-place.invariant in
    let within : c.loop-place.place < length c.loop-place.queues = omega (arith, c.loop-place-test.true, i.1) in
    more_then c.args.queues.now c.loop-place.queues _ i.3
    (set_room c.loop-place.queues c.loop-place.place c.index-queues-place.result c.reserve.new.self within
    c.reserve.ensures.more)
