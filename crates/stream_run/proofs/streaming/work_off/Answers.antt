use Rattle.std.proofs.Common.{◌≡◌, ◌∙◌, refl, sym, subst, List}
use Rattle.live.specs.LiveViews.{taken_of, world_on}
use Rattle.outside.specs.declared.departure.Departure.{Departure}
use Rattle.protocol.specs.World.Quiet.{AreWhole}
use Rattle.stream_run.specs.Linked.{IsPutAsTaken}
use Rattle.stream_run.proofs.Putting.{still_put}
use Rattle.stream_run.proofs.Streams.{goes_on_to, stands}
use Rattle.stream_run.proofs.streaming.work_off.Goals as goal

pub steps-init : goal.steps-init
steps-init g c =
    record {
      fixed = refl;
      put = c.requires;
      gone_on = stands (world_on c.args.live.now) c.args.live.now.world.sound;
      closed = refl;
      inputs = refl;
      same = λ input. (refl, refl);
    }

pub put_all-requires : goal.put_all-requires
put_all-requires g c =
    still_put (g.X.Outside.left c.steps.outside) (g.X.Outside.left c.steps.outside) c.steps.live.taken c.advance.new.self.taken
    (world_on c.steps.live) (world_on c.advance.new.self) refl c.advance.ensures.same.1 c.advance.ensures.gone_on c.steps.invariant.put

pub steps-preserved : goal.steps-preserved
steps-preserved g c =
    let live = c.put_all.new.live in
    let same : world_on live ≡ world_on c.advance.new.self = cc in
    record {
      fixed = c.flush.ensures.fixed ∙ (c.put_all.ensures.fixed ∙ c.steps.invariant.fixed);
      put = subst (λ (left : List Departure). IsPutAsTaken left (taken_of live) (world_on live)) (sym c.flush.ensures.left)
          c.in-Ok-put_all.ensures.put;
      gone_on = goes_on_to (world_on c.args.live.now) (world_on c.steps.live) (world_on c.advance.new.self) (world_on live)
          c.steps.invariant.gone_on c.advance.ensures.gone_on same;
      closed = cc;
      inputs = cc;
      same = λ input. (
        (c.flush.ensures.same input).0 ∙ ((c.put_all.ensures.same input).0 ∙ (c.steps.invariant.same input).0),
        (c.flush.ensures.same input).1 ∙ ((c.put_all.ensures.same input).1 ∙ (c.steps.invariant.same input).1),
      );
    }

pub returns-in-Err-put_all-clause-gone_on : goal.returns-in-Err-put_all-clause-gone_on
returns-in-Err-put_all-clause-gone_on g c =
    let same : world_on c.put_all.new.live ≡ world_on c.advance.new.self = cc in
    goes_on_to (world_on c.args.live.now) (world_on c.steps.live) (world_on c.advance.new.self) (world_on c.put_all.new.live)
    c.steps.invariant.gone_on c.advance.ensures.gone_on same

pub returns-in-Err-flush-clause-gone_on : goal.returns-in-Err-flush-clause-gone_on
returns-in-Err-flush-clause-gone_on g c =
    let same : world_on c.put_all.new.live ≡ world_on c.advance.new.self = cc in
    goes_on_to (world_on c.args.live.now) (world_on c.steps.live) (world_on c.advance.new.self) (world_on c.put_all.new.live)
    c.steps.invariant.gone_on c.advance.ensures.gone_on same

pub returns-in-Rests-clause-whole : goal.returns-in-Rests-clause-whole
returns-in-Rests-clause-whole g c =
    let same : world_on c.put_all.new.live ≡ world_on c.advance.new.self = cc in
    subst AreWhole (sym same) (c.in-Ok.ensures.whole c.in-Rests.is)

pub returns-in-Rests-clause-gone_on : goal.returns-in-Rests-clause-gone_on
returns-in-Rests-clause-gone_on g c =
    let same : world_on c.put_all.new.live ≡ world_on c.advance.new.self = cc in
    goes_on_to (world_on c.args.live.now) (world_on c.steps.live) (world_on c.advance.new.self) (world_on c.put_all.new.live)
    c.steps.invariant.gone_on c.advance.ensures.gone_on same
