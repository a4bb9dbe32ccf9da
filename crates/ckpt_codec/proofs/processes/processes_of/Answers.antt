use Rattle.std.proofs.Common.{option_copied, rules}
use Rattle.std.proofs.lemmas.Result.{err_from_is_err_and}
use Rattle.ckpt_codec.specs.Reading.{process_at, number_wanted, variables_wanted, process_like, past_process}
use Rattle.ckpt_codec.specs.Reading.{processes_at}
use Rattle.ckpt_codec.specs.RecordText.{processes_in}
use Rattle.ckpt_codec.proofs.Loop.{one_more, stops, has_all, starts, as_wanted}
use Rattle.ckpt_codec.proofs.processes.processes_of.Goals as goal

pub loop-place-init : goal.loop-place-init
unfolding processes_at
loop-place-init c =
    starts (process_like (processes_in (option_copied c.args.like))) past_process c.new-processes.result.items
    c.args.count (0, 0) c.args.bytes.now (search rules)

pub returns-in_err-process : goal.returns-in_err-process
returns-in_err-process c =
    let p = err_from_is_err_and c.from_residual.result c.from_residual.ensures.1 in
    rw (p.1, p.2)
    (stops c.in_err-process.field-0.0 (process_like (processes_in (option_copied c.args.like))) past_process
    c.loop-place.processes.items c.args.count c.loop-place.place (c.loop-place.place, c.loop-place.least)
    c.loop-place.rest.now (processes_at (processes_in (option_copied c.args.like)) c.args.count c.args.bytes.now)
    (process_at c.wanted_number-number.result c.wanted_variables-variables.result c.loop-place.least
    c.loop-place.rest.now) c.loop-place-test.true
    (as_wanted (λ n v. process_at n v c.loop-place.least c.loop-place.rest.now) c.wanted_number-number.result
    (number_wanted (processes_in (option_copied c.args.like)) c.loop-place.place)
    c.wanted_variables-variables.result
    (variables_wanted (processes_in (option_copied c.args.like)) c.loop-place.place) c.wanted_number-number.ensures
    c.wanted_variables-variables.ensures) c.in_err-process.ensures c.loop-place.invariant)

pub loop-place-preserved : goal.loop-place-preserved
loop-place-preserved c =
    rw c.number_above-least.ensures
    (one_more (process_like (processes_in (option_copied c.args.like))) past_process c.loop-place.processes.items
    c.push.new.self.items c.args.count c.loop-place.place (c.loop-place.place, c.loop-place.least)
    c.loop-place.rest.now c.in_ok-process.process c.in_ok-process.after.now
    (processes_at (processes_in (option_copied c.args.like)) c.args.count c.args.bytes.now)
    (process_at c.wanted_number-number.result c.wanted_variables-variables.result c.loop-place.least
    c.loop-place.rest.now) c.loop-place-test.true c.in_ok-push.ensures.items
    (as_wanted (λ n v. process_at n v c.loop-place.least c.loop-place.rest.now) c.wanted_number-number.result
    (number_wanted (processes_in (option_copied c.args.like)) c.loop-place.place)
    c.wanted_variables-variables.result
    (variables_wanted (processes_in (option_copied c.args.like)) c.loop-place.place) c.wanted_number-number.ensures
    c.wanted_variables-variables.ensures) c.in_ok-process.ensures c.loop-place.invariant)

pub returns : goal.returns
returns c =
    has_all (process_like (processes_in (option_copied c.args.like))) past_process c.loop-place.processes.items
    c.args.count c.loop-place.place (c.loop-place.place, c.loop-place.least) c.loop-place.rest.now
    (processes_at (processes_in (option_copied c.args.like)) c.args.count c.args.bytes.now) c.loop-place-test.false
    c.loop-place.invariant
