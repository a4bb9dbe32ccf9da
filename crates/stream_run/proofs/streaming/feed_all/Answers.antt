use Rattle.std.proofs.Common.{◌∙◌, refl, arith}
use Rattle.live.specs.LiveViews.{world_on}
use Rattle.growing.proofs.GoingOn.{goes_on_then}
use Rattle.stream_run.proofs.Feeding.{fed_then, none_fed, stops_since}
use Rattle.stream_run.proofs.Streams.{ended_all, ended_next, stands}
use Rattle.stream_run.proofs.streaming.feed_all.Goals as goal

pub loop-number-init : goal.loop-number-init
loop-number-init g c =
    let world = world_on c.args.live.now in
    record {
      fixed = refl;
      fed = none_fed (g.X.Outside.came c.args.outside.now) (g.X.Outside.came c.args.outside.now) world world (λ input. refl) refl;
      ended = λ all none input within here. absurd (omega (arith, within));
      gone_on = stands world c.args.live.now.world.sound;
      left = refl;
      taken = refl;
      closed = refl;
      stations = refl;
    }

pub returns-in-Err-clause-gone_on : goal.returns-in-Err-clause-gone_on
returns-in-Err-clause-gone_on g c =
    goes_on_then (world_on c.args.live.now) (world_on c.loop-number.live) (world_on c.feed_in_turn.new.live)
    c.loop-number.invariant.gone_on c.feed_in_turn.ensures.gone_on

pub returns-in-Err-clause-failed : goal.returns-in-Err-clause-failed
returns-in-Err-clause-failed g c =
    stops_since (g.X.Outside.has_failed c.feed_in_turn.new.outside) (g.X.Outside.came c.args.outside.now) (g.X.Outside.came c.loop-number.outside)
    (g.X.Outside.came c.feed_in_turn.new.outside) (world_on c.args.live.now) (world_on c.loop-number.live) c.in-Err.stopped
    c.loop-number.invariant.fed c.loop-number.invariant.gone_on.same_net c.in-Err.ensures.failed

pub loop-number-preserved : goal.loop-number-preserved
loop-number-preserved g c =
    let before = world_on c.args.live.now in
    let old = world_on c.loop-number.live in
    let new = world_on c.feed_in_turn.new.live in
    let gone = c.feed_in_turn.ensures.gone_on in
    record {
      fixed = c.feed_in_turn.ensures.fixed ∙ c.loop-number.invariant.fixed;
      fed = fed_then (g.X.Outside.came c.args.outside.now) (g.X.Outside.came c.loop-number.outside)
          (g.X.Outside.came c.feed_in_turn.new.outside) before old new c.loop-number.invariant.fed c.in-Ok.ensures.fed;
      ended = λ all.
          ended_next old.net new.net (g.X.Outside.has_ended c.loop-number.outside) (g.X.Outside.has_ended c.feed_in_turn.new.outside)
          c.loop-number.any c.in-Ok.more c.either-any.result c.loop-number.number gone.same_net (c.loop-number.invariant.ended all)
          c.feed_in_turn.ensures.others (c.in-Ok.ensures.end all) c.either-any.ensures;
      gone_on = goes_on_then before old new c.loop-number.invariant.gone_on gone;
      left = c.feed_in_turn.ensures.same.0 ∙ c.loop-number.invariant.left;
      taken = c.feed_in_turn.ensures.same.1 ∙ c.loop-number.invariant.taken;
      closed = c.feed_in_turn.ensures.same.2 ∙ c.loop-number.invariant.closed;
      stations = c.feed_in_turn.ensures.same.3 ∙ c.loop-number.invariant.stations;
    }

pub returns-clause-end : goal.returns-clause-end
returns-clause-end g c = λ all none.
    ended_all (world_on c.loop-number.live) (g.X.Outside.has_ended c.loop-number.outside) c.loop-number.number
    c.loop-number.live.world.sound (c.loop-number.invariant.ended all none) (omega arith)
