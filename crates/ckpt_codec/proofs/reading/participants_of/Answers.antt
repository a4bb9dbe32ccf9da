use Rattle.std.proofs.Common.{rules, refl}
use Rattle.std.proofs.lemmas.Result.{err_from_is_err_and}
use Rattle.ckpt_codec.specs.Reading.{participant_at, past_participant, participants_at}
use Rattle.ckpt_codec.proofs.Loop.{one_more, stops, has_all, starts}
use Rattle.ckpt_codec.proofs.reading.participants_of.Goals as goal

pub loop-init : goal.loop-init
unfolding participants_at
loop-init c =
    starts (participant_at c.args.node c.args.nodes) past_participant c.new-participants.result.items c.args.count 0
    c.args.bytes.now (search rules)

pub returns-in_err-participant : goal.returns-in_err-participant
returns-in_err-participant c =
    let p = err_from_is_err_and c.from_residual.result c.from_residual.ensures.1 in
    rw (p.1, p.2)
    (stops c.in_err-participant.field-0.0 (participant_at c.args.node c.args.nodes) past_participant
    c.loop.participants.items c.args.count c.loop.counter c.loop.least c.loop.rest.now
    (participants_at c.args.node c.args.nodes c.args.count c.args.bytes.now)
    ((participant_at c.args.node c.args.nodes) c.loop.least c.loop.rest.now) c.loop-test.true refl
    c.in_err-participant.ensures c.loop.invariant)

pub loop-preserved : goal.loop-preserved
loop-preserved c =
    one_more (participant_at c.args.node c.args.nodes) past_participant c.loop.participants.items c.push.new.self.items
    c.args.count c.loop.counter c.loop.least c.loop.rest.now c.in_ok-participant.participant
    c.in_ok-participant.after.now (participants_at c.args.node c.args.nodes c.args.count c.args.bytes.now)
    ((participant_at c.args.node c.args.nodes) c.loop.least c.loop.rest.now) c.loop-test.true
    c.in_ok-push.ensures.items refl c.in_ok-participant.ensures c.loop.invariant

pub returns : goal.returns
returns c =
    has_all (participant_at c.args.node c.args.nodes) past_participant c.loop.participants.items c.args.count
    c.loop.counter c.loop.least c.loop.rest.now
    (participants_at c.args.node c.args.nodes c.args.count c.args.bytes.now) c.loop-test.false c.loop.invariant
