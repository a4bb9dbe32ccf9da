use Rattle.std.proofs.Common.{List, option_copied, refl, rules, subst, sym}
use Rattle.std.proofs.lemmas.Result.{err_from_is_err_and}
use Rattle.ckpt_codec.specs.Reading.{saved_end_at, channel_wanted, role_wanted, end_like, past_end, ends_at}
use Rattle.ckpt_codec.specs.RecordText.{ends_in}
use Rattle.ckpt_codec.proofs.Loop.{one_more, stops, has_all, starts, as_wanted}
use Rattle.record.specs.declared.image.SavedEnd.{SavedEnd}
use Rattle.ckpt_codec.proofs.Ordered.{AreOrdered, none_ordered, one_ordered}
use Rattle.ckpt_codec.proofs.ends.ends_of.Goals as goal

pub loop-place-init : goal.loop-place-init
unfolding ends_at
loop-place-init c = (
  starts (end_like (ends_in (option_copied c.args.like))) past_end c.new-ends.result.items c.args.count (0, 0)
      c.args.bytes.now (search rules),
  subst (λ (ends : List SavedEnd). AreOrdered (ends_in (option_copied c.args.like)) ends 0 0)
      (sym c.new-ends.ensures.items) (none_ordered _),
)

pub returns-in_err-end-clause-read : goal.returns-in_err-end-clause-read
returns-in_err-end-clause-read c =
    let p = err_from_is_err_and c.from_residual.result c.from_residual.ensures.1 in
    rw (p.1, p.2)
    (stops c.in_err-end.field-0.0 (end_like (ends_in (option_copied c.args.like))) past_end c.loop-place.ends.items
    c.args.count c.loop-place.place (c.loop-place.place, c.loop-place.least) c.loop-place.rest.now
    (ends_at (ends_in (option_copied c.args.like)) c.args.count c.args.bytes.now)
    (saved_end_at c.wanted_channel-channel.result c.wanted_role-role.result c.loop-place.least
    c.loop-place.rest.now) c.loop-place-test.true
    (as_wanted (λ n r. saved_end_at n r c.loop-place.least c.loop-place.rest.now) c.wanted_channel-channel.result
    (channel_wanted (ends_in (option_copied c.args.like)) c.loop-place.place) c.wanted_role-role.result
    (role_wanted (ends_in (option_copied c.args.like)) c.loop-place.place) c.wanted_channel-channel.ensures.wanted
    c.wanted_role-role.ensures) c.in_err-end.ensures.read c.loop-place.invariant.0)

pub loop-place-preserved : goal.loop-place-preserved
loop-place-preserved c = (
  one_more (end_like (ends_in (option_copied c.args.like))) past_end c.loop-place.ends.items c.push.new.self.items
      c.args.count c.loop-place.place (c.loop-place.place, c.loop-place.least) c.loop-place.rest.now c.in_ok-end.end
      c.in_ok-end.after.now (ends_at (ends_in (option_copied c.args.like)) c.args.count c.args.bytes.now)
      (saved_end_at c.wanted_channel-channel.result c.wanted_role-role.result c.loop-place.least c.loop-place.rest.now)
      c.loop-place-test.true c.in_ok-push.ensures.items
      (as_wanted (λ n r. saved_end_at n r c.loop-place.least c.loop-place.rest.now) c.wanted_channel-channel.result
      (channel_wanted (ends_in (option_copied c.args.like)) c.loop-place.place) c.wanted_role-role.result
      (role_wanted (ends_in (option_copied c.args.like)) c.loop-place.place) c.wanted_channel-channel.ensures.wanted
      c.wanted_role-role.ensures) c.in_ok-end.ensures.read c.loop-place.invariant.0,
  one_ordered (ends_in (option_copied c.args.like)) c.loop-place.ends.items c.push.new.self.items c.loop-place.place
      c.loop-place.least _ c.in_ok-end.end c.wanted_channel-channel.result c.loop-place.invariant.1
      c.wanted_channel-channel.ensures.wanted c.wanted_channel-channel.ensures.rises c.in_ok-end.ensures.wanted
      c.in_ok-end.ensures.least c.in_ok-push.ensures.items refl,
)

pub returns-clause-read : goal.returns-clause-read
returns-clause-read c =
    has_all (end_like (ends_in (option_copied c.args.like))) past_end c.loop-place.ends.items c.args.count
    c.loop-place.place (c.loop-place.place, c.loop-place.least) c.loop-place.rest.now
    (ends_at (ends_in (option_copied c.args.like)) c.args.count c.args.bytes.now) c.loop-place-test.false
    c.loop-place.invariant.0
