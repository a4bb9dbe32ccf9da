use Rattle.std.proofs.Common.{rules, vec_len, ◌≡◌, ◌++◌, ◌+◌, suc, ℤ, List, length, take, drop, map, ap, sym, ◌∙◌, subst, arith}
use Rattle.std.proofs.lemmas.Grind.{common_steps}
use Rattle.std.proofs.lemmas.Result.{err_from_is_err_and}
use Rattle.kahn_net.specs.Common.{network_of, code_of, approximation, history_of}
use Rattle.net_check.specs.declared.net.Net.{Net}
use Rattle.stream_eq.proofs.Errors.{other_err}
use Rattle.stream_eq.proofs.Lengths.{long_at_once}
use Rattle.approximations.specs.Adding.{IsAdded}
use Rattle.approximations.proofs.Beginnings.{begin_on}
use Rattle.approximations.proofs.Limits.{short_inputs, short_then, on_next, not_long, long_next, at_rest}
use Rattle.approximations.proofs.Rounds.{length-approximation, next_is}
use Rattle.std.proofs.lemmas.Grind.{elements}
use Rattle.approximations.proofs.approximation.histories_at.Goals as goal

pub loop-round-init : goal.loop-round-init
loop-round-init c =
    let net = network_of c.args.net.now.value.program in
    let here = c.in_ok-histories.histories.items in
    let channels = c.deref-3.result.now.program.channels in
    let count : vec_len channels ≡ length channels.items = search rules in
    record {
      value = c.in_ok-histories.ensures;
      on = begin_on net c.deref-2.result.now c.in_ok-all.all.items here c.args.inputs.now c.len.result
          c.args.net.now.value.valid c.requires
          (sym (ap (map code_of)
          (c.deref-2.ensures.value ∙ ap (λ (n : Net). n.program.processes.items) c.deref.ensures)))
          c.in_ok-histories.ensures
          (c.len.ensures ∙ (count ∙ ap (λ (n : Net). length n.program.channels.items) c.deref-3.ensures)) c.in_ok-all.ensures;
      short = short_inputs c.args.inputs.now here c.if-not-are_short.ensures c.in_ok-histories.ensures;
    }

pub returns-then-not-are_short-clause-long : goal.returns-then-not-are_short-clause-long
returns-then-not-are_short-clause-long c =
    λ long. long_at_once (network_of c.args.net.now.value.program) c.args.inputs.now c.args.n c.if-not-are_short.ensures

pub returns-in_err-added-clause-long : goal.returns-in_err-added-clause-long
returns-in_err-added-clause-long c =
    let p = err_from_is_err_and c.from_residual-in_err-added.result c.from_residual-in_err-added.ensures.1 in
    let net = network_of c.args.net.now.value.program in
    rw (p.1, p.2)
    (λ h. long_next net c.args.net.now.value.valid c.args.inputs.now c.deref-in-loop-round.result.now
    c.loop-round.round c.args.n (c.deref-in-loop-round.ensures.value ∙ c.loop-round.invariant.value)
    c.loop-round-test.true (c.in_err-added.ensures.long (other_err _ _ h)))

pub returns-then-are_empty-clause-value : goal.returns-then-are_empty-clause-value
returns-then-are_empty-clause-value c =
    let net = network_of c.args.net.now.value.program in
    sym c.deref-in-loop-round.ensures.value
    ∙ at_rest net c.args.net.now.value.valid c.args.inputs.now c.requires c.deref-in-loop-round.result.now
    c.in_ok-added.added.items c.loop-round.round c.args.n
    (c.deref-in-loop-round.ensures.value ∙ c.loop-round.invariant.value) c.in_ok-added.ensures.put
    c.in_ok-added.ensures.inside
    (λ k. ap (λ (xs : List (List ℤ)). history_of xs k) (sym c.deref-in-loop-round-2.ensures.value)
    ∙ c.are_empty.ensures c.if-are_empty.true k) c.loop-round-test.true

pub returns-then-are_empty-clause-not_long : goal.returns-then-are_empty-clause-not_long
returns-then-are_empty-clause-not_long c =
    let net = network_of c.args.net.now.value.program in
    let last =
    at_rest net c.args.net.now.value.valid c.args.inputs.now c.requires c.deref-in-loop-round.result.now
    c.in_ok-added.added.items c.loop-round.round c.args.n
    (c.deref-in-loop-round.ensures.value ∙ c.loop-round.invariant.value) c.in_ok-added.ensures.put
    c.in_ok-added.ensures.inside
    (λ k. ap (λ (xs : List (List ℤ)). history_of xs k) (sym c.deref-in-loop-round-2.ensures.value)
    ∙ c.are_empty.ensures c.if-are_empty.true k) c.loop-round-test.true in
    not_long net c.args.net.now.value.valid c.args.inputs.now c.loop-round.histories.items c.args.n c.requires
    (sym c.deref-in-loop-round.ensures.value ∙ last) c.loop-round.invariant.short

pub loop-round-preserved : goal.loop-round-preserved
loop-round-preserved c =
    let net = network_of c.args.net.now.value.program in
    let valid = c.args.net.now.value.valid in
    let here = c.deref-in-loop-round.result.now in
    let same = c.deref-in-loop-round.ensures.value ∙ c.loop-round.invariant.value in
    let added = c.in_ok-added.added.items in
    let after = c.append_all.new.histories in
    let all = c.advance_all.new.all in
    let e = c.in_ok-added.ensures in
    let from = c.deref_mut-in-loop-round.ensures.value ∙ sym c.deref-in-loop-round.ensures.value in
    let more : IsAdded added here after =
    subst (λ (h : List (List ℤ)). IsAdded added h after) from
    (subst (λ (m : List (List ℤ)). IsAdded m c.deref_mut-in-loop-round.result.now after)
    c.deref-in-loop-round-3.ensures.value c.in_ok-append_all.ensures) in
    let wide : length after ≡ length here = c.append_all.auto.histories ∙ ap (length {A = List ℤ}) from in
    let next : suc c.loop-round.round ≡ c.loop-round.round + 1 = omega arith in
    let channels : length here ≡ length net.channels =
    ap (length {A = List ℤ}) same
    ∙ length-approximation net valid c.args.inputs.now c.requires c.loop-round.round in
    let first : take c.loop-round.histories.len (after ++ drop (length after) c.loop-round.histories.items) ≡ after =
    grind (arith, common_steps) in
    let second : take c.loop-round.all.len (all ++ drop (length all) c.loop-round.all.items) ≡ all =
    grind (arith, common_steps) in
    rw (first, second) (record {
      value = next_is net valid c.args.inputs.now c.requires c.loop-round.round here added after same e.put e.inside more
          wide ∙ ap (approximation net c.args.inputs.now) next;
      on = on_next net valid here after added all channels more e.on;
      short = short_then here added after e.short more wide;
    })

pub returns-clause-not_long : goal.returns-clause-not_long
returns-clause-not_long c =
    let net = network_of c.args.net.now.value.program in
    let last : c.loop-round.round ≡ c.args.n = omega arith in
    not_long net c.args.net.now.value.valid c.args.inputs.now c.loop-round.histories.items c.args.n c.requires
    (c.loop-round.invariant.value ∙ ap (approximation net c.args.inputs.now) last) c.loop-round.invariant.short

pub advance_all-requires-clause-histories : goal.advance_all-requires-clause-histories
advance_all-requires-clause-histories c = grind (arith, elements)

pub advance_all-requires-clause-short : goal.advance_all-requires-clause-short
advance_all-requires-clause-short c = grind (arith, elements)

pub append_all-requires : goal.append_all-requires
append_all-requires c = grind (arith, elements)

pub returns-clause-long : goal.returns-clause-long
returns-clause-long c = grind (arith, elements)

pub returns-then-are_empty-clause-long : goal.returns-then-are_empty-clause-long
returns-then-are_empty-clause-long c = grind (arith, elements)
