use Rattle.std.proofs.Common.{◌≡◌, ◌<◌, ℕ, List, arith, length, refl, sym, subst, ◌∙◌}
use Rattle.std.specs.Vec.{with_items}
use Rattle.std.proofs.lemmas.Grind.{common_steps}
use Rattle.std.proofs.lemmas.Result.{err_from_is_err_and}
use Rattle.stream_eq.proofs.Errors.{other_err}
use Rattle.kahn_net.specs.Common.{network_of, standing_of}
use Rattle.approximations.proofs.Turning.{code_here, counts_fit, on_then, elsewhere_then, long_then}
use Rattle.approximations.proofs.Stopping.{fewer_then, all_then, never_both, is_then}
use Rattle.std.specs.Prelude.{slice_index}
use Rattle.std.proofs.lemmas.Grind.{elements}
use Rattle.approximations.proofs.advance.take_turn.Goals as goal

pub count_taken-requires : goal.count_taken-requires
count_taken-requires c =
    let net = network_of c.args.net.now.value.program in
    let before = c.args.progress.now in
    let done = c.in_ok-state.field-0 in
    counts_fit net c.args.process c.args.histories.now (standing_of before.state) before.got.items c.args.added.now
    (standing_of done.state) done.taken.items c.deref.result.now done.sent.items done.sent.items
    (code_here c.args.net.now.value.program.processes.items c.args.process c.requires.here) c.requires.on
    c.in_ok-state.ensures.turn c.requires.channels c.requires.short c.deref.ensures.value refl c.deref_mut.result.now
    c.deref_mut.ensures.value

pub returns-clause-on : goal.returns-clause-on
returns-clause-on c =
    let net = network_of c.args.net.now.value.program in
    let before = c.args.progress.now in
    let done = c.in_ok-state.field-0 in
    let whole : (with_items before.got c.count_taken.new.got).items ≡ c.count_taken.new.got =
    grind (arith, common_steps) in
    on_then net c.args.process c.args.histories.now (standing_of before.state) before.got.items c.args.added.now
    (standing_of done.state) done.taken.items c.deref.result.now done.sent.items c.deref-2.result.now
    (code_here c.args.net.now.value.program.processes.items c.args.process c.requires.here) c.requires.on
    c.in_ok-state.ensures.turn c.requires.channels c.requires.short c.deref.ensures.value c.deref-2.ensures.value
    (with_items before.got c.count_taken.new.got).items c.count_taken.new.got c.deref_mut.result.now
    c.add_all_sent.new.added whole c.deref_mut.ensures.value c.requires.counts c.count_taken.auto.got
    c.count_taken.ensures c.in_ok-add_all_sent.ensures.added

pub returns-clause-fewer : goal.returns-clause-fewer
returns-clause-fewer c took =
    let net = network_of c.args.net.now.value.program in
    let before = c.args.progress.now in
    let done = c.in_ok-state.field-0 in
    let whole : (with_items before.got c.count_taken.new.got).items ≡ c.count_taken.new.got =
    grind (arith, common_steps) in
    fewer_then net c.args.net.now.value.valid c.args.process c.args.histories.now (standing_of before.state)
    before.got.items c.args.added.now (standing_of done.state) done.taken.items c.deref.result.now done.sent.items
    c.deref-2.result.now (code_here c.args.net.now.value.program.processes.items c.args.process c.requires.here)
    c.requires.on c.in_ok-state.ensures.turn c.requires.channels c.requires.histories c.deref.ensures.value
    c.deref-2.ensures.value (with_items before.got c.count_taken.new.got).items c.count_taken.new.got
    c.deref_mut.result.now whole c.deref_mut.ensures.value c.requires.counts c.count_taken.auto.got
    c.count_taken.ensures
    (λ zeros. never_both c.is_nothing.result
    (c.is_nothing.ensures.1
    (subst (λ (xs : List ℕ). (k : ℕ) → k < length xs → slice_index xs k ≡ 0)
    (c.deref.ensures.value ∙ sym c.deref-3.ensures.value) zeros)) took)

pub returns-clause-all : goal.returns-clause-all
returns-clause-all c took =
    let net = network_of c.args.net.now.value.program in
    let before = c.args.progress.now in
    let done = c.in_ok-state.field-0 in
    all_then net c.args.net.now.value.valid c.args.process c.args.histories.now (standing_of before.state)
    before.got.items c.args.added.now (standing_of done.state) done.taken.items c.deref.result.now done.sent.items
    c.deref-2.result.now (code_here c.args.net.now.value.program.processes.items c.args.process c.requires.here)
    c.requires.on c.in_ok-state.ensures.turn c.requires.channels c.requires.histories c.deref.ensures.value
    c.deref-2.ensures.value c.add_all_sent.new.added c.in_ok-add_all_sent.ensures.added
    (subst (λ (xs : List ℕ). (k : ℕ) → k < length xs → slice_index xs k ≡ 0)
    (c.deref-3.ensures.value ∙ sym c.deref.ensures.value)
    (c.is_nothing.ensures.0 (is_then c.is_nothing.result took))) c.in_ok-add_all_sent.ensures.short

pub returns-clause-elsewhere : goal.returns-clause-elsewhere
returns-clause-elsewhere c =
    let net = network_of c.args.net.now.value.program in
    let before = c.args.progress.now in
    let done = c.in_ok-state.field-0 in
    elsewhere_then net c.args.process c.args.histories.now (standing_of before.state) before.got.items c.args.added.now
    (standing_of done.state) done.taken.items c.deref.result.now done.sent.items c.deref-2.result.now
    (code_here c.args.net.now.value.program.processes.items c.args.process c.requires.here) c.requires.on
    c.in_ok-state.ensures.turn c.requires.channels c.requires.short c.deref.ensures.value c.deref-2.ensures.value
    c.add_all_sent.new.added c.in_ok-add_all_sent.ensures.added

pub returns-in_err-add_all_sent-clause-long : goal.returns-in_err-add_all_sent-clause-long
returns-in_err-add_all_sent-clause-long c =
    let net = network_of c.args.net.now.value.program in
    let before = c.args.progress.now in
    let done = c.in_ok-state.field-0 in
    let p = err_from_is_err_and c.from_residual-in_err-add_all_sent.result
    c.from_residual-in_err-add_all_sent.ensures.1 in
    rw (p.1, p.2)
    (λ h. long_then net c.args.process c.args.histories.now (standing_of before.state) before.got.items c.args.added.now
    (standing_of done.state) done.taken.items c.deref.result.now done.sent.items c.deref-2.result.now
    (code_here c.args.net.now.value.program.processes.items c.args.process c.requires.here) c.requires.on
    c.in_ok-state.ensures.turn c.requires.channels c.requires.short c.deref.ensures.value c.deref-2.ensures.value
    (c.in_err-add_all_sent.ensures.long (other_err _ _ h)))

pub returns-clause-counts : goal.returns-clause-counts
returns-clause-counts c = grind (arith, elements)

pub returns-clause-short : goal.returns-clause-short
returns-clause-short c = grind (arith, common_steps)

pub returns-clause-long : goal.returns-clause-long
returns-clause-long c = grind (arith, elements)

pub add_all_sent-requires-clause-short : goal.add_all_sent-requires-clause-short
add_all_sent-requires-clause-short c = grind (arith, elements)

pub add_all_sent-requires-clause-count : goal.add_all_sent-requires-clause-count
add_all_sent-requires-clause-count c = grind (arith, elements)
