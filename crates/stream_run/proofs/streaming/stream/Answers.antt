use Rattle.std.proofs.Common.{◌≡◌, ◌∙◌, false, refl}
use Rattle.growing.proofs.GoingOn.{goes_on_then}
use Rattle.live.specs.LiveViews.{world_on}
use Rattle.stream_run.specs.Linked.{AreEnded, AreFedAll}
use Rattle.stream_run.proofs.Feeding.{ends_since, fed_in_part, fed_then, none_fed, stops_since}
use Rattle.stream_run.proofs.Putting.{still_put}
use Rattle.stream_run.proofs.Streams.{so_anyway, stands, still_ended}
use Rattle.stream_run.proofs.streaming.stream.Goals as goal

pub pieces-init : goal.pieces-init
pieces-init g c =
    let came = g.X.Outside.came c.args.outside.now in
    let world = world_on c.args.live.now in
    record {
      fixed = refl;
      put = c.requires.put;
      fed = none_fed came came world world (λ input. refl) refl;
      gone_on = stands world c.args.live.now.world.sound;
      closed = refl;
    }

pub pieces-preserved : goal.pieces-preserved
pieces-preserved g c =
    let came0 = g.X.Outside.came c.args.outside.now in
    let came1 = g.X.Outside.came c.pieces.outside in
    let came2 = g.X.Outside.came c.work_off.new.outside in
    let came3 = g.X.Outside.came c.feed_inputs.new.outside in
    let w0 = world_on c.args.live.now in
    let w1 = world_on c.pieces.live in
    let w2 = world_on c.work_off.new.live in
    let w3 = world_on c.feed_inputs.new.live in
    let off : AreFedAll came1 came2 w1 w2 = none_fed came1 came2 w1 w2 (λ input. (c.work_off.ensures.same input).0) c.work_off.ensures.inputs in
    let before : AreFedAll came0 came2 w0 w2 = fed_then came0 came1 came2 w0 w1 w2 c.pieces.invariant.fed off in
    record {
      fixed = c.feed_inputs.ensures.fixed ∙ (c.work_off.ensures.fixed ∙ c.pieces.invariant.fixed);
      put = still_put (g.X.Outside.left c.work_off.new.outside) (g.X.Outside.left c.feed_inputs.new.outside)
          c.work_off.new.live.taken c.feed_inputs.new.live.taken w2 w3 c.feed_inputs.ensures.same.0 c.feed_inputs.ensures.same.1
          c.feed_inputs.ensures.gone_on c.in-Ok.ensures.put;
      fed = fed_then came0 came2 came3 w0 w2 w3 before c.in-Ok-true.ensures.fed;
      gone_on = goes_on_then w0 w2 w3 (goes_on_then w0 w1 w2 c.pieces.invariant.gone_on c.work_off.ensures.gone_on) c.feed_inputs.ensures.gone_on;
      closed = c.feed_inputs.ensures.same.2 ∙ (c.work_off.ensures.closed ∙ c.pieces.invariant.closed);
    }

pub returns-in-Err-feed_inputs-clause-gone_on : goal.returns-in-Err-feed_inputs-clause-gone_on
returns-in-Err-feed_inputs-clause-gone_on g c =
    let w0 = world_on c.args.live.now in
    let w1 = world_on c.pieces.live in
    let w2 = world_on c.work_off.new.live in
    let w3 = world_on c.feed_inputs.new.live in
    goes_on_then w0 w2 w3 (goes_on_then w0 w1 w2 c.pieces.invariant.gone_on c.work_off.ensures.gone_on) c.feed_inputs.ensures.gone_on

pub returns-in-Ok-false-clause-gone_on : goal.returns-in-Ok-false-clause-gone_on
returns-in-Ok-false-clause-gone_on g c =
    let w0 = world_on c.args.live.now in
    let w1 = world_on c.pieces.live in
    let w2 = world_on c.work_off.new.live in
    let w3 = world_on c.feed_inputs.new.live in
    let w4 = world_on c.work_off-in-Ok-false.new.live in
    goes_on_then w0 w3 w4 (goes_on_then w0 w2 w3 (goes_on_then w0 w1 w2 c.pieces.invariant.gone_on c.work_off.ensures.gone_on) c.feed_inputs.ensures.gone_on) c.work_off-in-Ok-false.ensures.gone_on

pub returns-in-Ok-false-clause-fed : goal.returns-in-Ok-false-clause-fed
returns-in-Ok-false-clause-fed g c =
    let came0 = g.X.Outside.came c.args.outside.now in
    let came1 = g.X.Outside.came c.pieces.outside in
    let came2 = g.X.Outside.came c.work_off.new.outside in
    let came3 = g.X.Outside.came c.feed_inputs.new.outside in
    let w0 = world_on c.args.live.now in
    let w1 = world_on c.pieces.live in
    let w2 = world_on c.work_off.new.live in
    let w3 = world_on c.feed_inputs.new.live in
    let off : AreFedAll came1 came2 w1 w2 = none_fed came1 came2 w1 w2 (λ input. (c.work_off.ensures.same input).0) c.work_off.ensures.inputs in
    let before : AreFedAll came0 came2 w0 w2 = fed_then came0 came1 came2 w0 w1 w2 c.pieces.invariant.fed off in
    let came4 = g.X.Outside.came c.work_off-in-Ok-false.new.outside in
    let w4 = world_on c.work_off-in-Ok-false.new.live in
    let again : AreFedAll came3 came4 w3 w4 =
    none_fed came3 came4 w3 w4 (λ input. (c.work_off-in-Ok-false.ensures.same input).0) c.work_off-in-Ok-false.ensures.inputs in
    let fed : AreFedAll came0 came4 w0 w4 =
    fed_then came0 came3 came4 w0 w3 w4 (fed_then came0 came2 came3 w0 w2 w3 before c.in-Ok-false.ensures.fed) again in
    so_anyway (AreFedAll came0 came4 w0 w4) c.work_off-in-Ok-false.result fed

pub returns-in-Ok-false-clause-came : goal.returns-in-Ok-false-clause-came
returns-in-Ok-false-clause-came g c =
    let came0 = g.X.Outside.came c.args.outside.now in
    let came1 = g.X.Outside.came c.pieces.outside in
    let came2 = g.X.Outside.came c.work_off.new.outside in
    let came3 = g.X.Outside.came c.feed_inputs.new.outside in
    let w0 = world_on c.args.live.now in
    let w1 = world_on c.pieces.live in
    let w2 = world_on c.work_off.new.live in
    let w3 = world_on c.feed_inputs.new.live in
    let off : AreFedAll came1 came2 w1 w2 = none_fed came1 came2 w1 w2 (λ input. (c.work_off.ensures.same input).0) c.work_off.ensures.inputs in
    let before : AreFedAll came0 came2 w0 w2 = fed_then came0 came1 came2 w0 w1 w2 c.pieces.invariant.fed off in
    let came4 = g.X.Outside.came c.work_off-in-Ok-false.new.outside in
    let w4 = world_on c.work_off-in-Ok-false.new.live in
    let again : AreFedAll came3 came4 w3 w4 =
    none_fed came3 came4 w3 w4 (λ input. (c.work_off-in-Ok-false.ensures.same input).0) c.work_off-in-Ok-false.ensures.inputs in
    let fed : AreFedAll came0 came4 w0 w4 =
    fed_then came0 came3 came4 w0 w3 w4 (fed_then came0 came2 came3 w0 w2 w3 before c.in-Ok-false.ensures.fed) again in
    fed_in_part came0 came4 w0 w4 fed

pub returns-in-Ok-false-clause-ended : goal.returns-in-Ok-false-clause-ended
returns-in-Ok-false-clause-ended g c =
    let w3 = world_on c.feed_inputs.new.live in
    let w4 = world_on c.work_off-in-Ok-false.new.live in
    let none : c.in-Ok-false.field-0 ≡ false = cc in
    let ended : AreEnded w3.net (g.X.Outside.has_ended c.feed_inputs.new.outside) = c.in-Ok-false.ensures.end none in
    so_anyway (AreEnded w4.net (g.X.Outside.has_ended c.work_off-in-Ok-false.new.outside)) c.work_off-in-Ok-false.result
    (still_ended w3.net w4.net (g.X.Outside.has_ended c.feed_inputs.new.outside) (g.X.Outside.has_ended c.work_off-in-Ok-false.new.outside)
    c.work_off-in-Ok-false.ensures.gone_on.same_net (λ input. (c.work_off-in-Ok-false.ensures.same input).1) ended)

pub returns-in-Err-clause-failed : goal.returns-in-Err-clause-failed
returns-in-Err-clause-failed g c =
    stops_since (g.X.Outside.has_failed c.work_off.new.outside) (g.X.Outside.came c.args.outside.now) (g.X.Outside.came c.pieces.outside)
    (g.X.Outside.came c.work_off.new.outside) (world_on c.args.live.now) (world_on c.pieces.live) c.in-Err.stopped
    c.pieces.invariant.fed c.pieces.invariant.gone_on.same_net c.in-Err.ensures.failed

pub returns-in-Err-feed_inputs-clause-failed : goal.returns-in-Err-feed_inputs-clause-failed
returns-in-Err-feed_inputs-clause-failed g c =
    let came0 = g.X.Outside.came c.args.outside.now in
    let came1 = g.X.Outside.came c.pieces.outside in
    let came2 = g.X.Outside.came c.work_off.new.outside in
    let w0 = world_on c.args.live.now in
    let w1 = world_on c.pieces.live in
    let w2 = world_on c.work_off.new.live in
    let off : AreFedAll came1 came2 w1 w2 = none_fed came1 came2 w1 w2 (λ input. (c.work_off.ensures.same input).0) c.work_off.ensures.inputs in
    stops_since (g.X.Outside.has_failed c.feed_inputs.new.outside) came0 came2 (g.X.Outside.came c.feed_inputs.new.outside) w0 w2 c.in-Err-feed_inputs.stopped
    (fed_then came0 came1 came2 w0 w1 w2 c.pieces.invariant.fed off) (c.work_off.ensures.gone_on.same_net ∙ c.pieces.invariant.gone_on.same_net)
    c.in-Err-feed_inputs.ensures.failed

pub returns-in-Ok-false-clause-failed : goal.returns-in-Ok-false-clause-failed
returns-in-Ok-false-clause-failed g c =
    let came0 = g.X.Outside.came c.args.outside.now in
    let came1 = g.X.Outside.came c.pieces.outside in
    let came2 = g.X.Outside.came c.work_off.new.outside in
    let came3 = g.X.Outside.came c.feed_inputs.new.outside in
    let w0 = world_on c.args.live.now in
    let w1 = world_on c.pieces.live in
    let w2 = world_on c.work_off.new.live in
    let w3 = world_on c.feed_inputs.new.live in
    let off : AreFedAll came1 came2 w1 w2 = none_fed came1 came2 w1 w2 (λ input. (c.work_off.ensures.same input).0) c.work_off.ensures.inputs in
    let before : AreFedAll came0 came2 w0 w2 = fed_then came0 came1 came2 w0 w1 w2 c.pieces.invariant.fed off in
    ends_since (g.X.Outside.has_failed c.work_off-in-Ok-false.new.outside) came0 came3 (g.X.Outside.came c.work_off-in-Ok-false.new.outside)
    w0 w3 c.work_off-in-Ok-false.result (fed_then came0 came2 came3 w0 w2 w3 before c.in-Ok-false.ensures.fed)
    (c.feed_inputs.ensures.gone_on.same_net ∙ (c.work_off.ensures.gone_on.same_net ∙ c.pieces.invariant.gone_on.same_net))
    c.work_off-in-Ok-false.ensures.failed
