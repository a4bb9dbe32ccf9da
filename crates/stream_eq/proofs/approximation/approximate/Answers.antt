use Rattle.std.proofs.Common.{◌≡◌, ℕ, List, sym, ap, subst, ◌∙◌, refl, arith}
use Rattle.std.proofs.lemmas.Result.{err_from_is_err_and}
use Rattle.kahn_net.specs.Common.{network_of, approximation}
use Rattle.kahn_net.specs.Approximations.{next_histories}
use Rattle.stream_eq.specs.Limits.{IsWithin}
use Rattle.stream_eq.proofs.Errors.{other_err}
use Rattle.stream_eq.proofs.Lengths.{inputs_within, not_long, long_at, long_at_once, next_round, at_rest}
use Rattle.std.proofs.lemmas.Grind.{elements}
use Rattle.stream_eq.proofs.approximation.approximate.Goals as goal

pub loop-round-init : goal.loop-round-init
loop-round-init c = record {
  value = c.in_ok-histories.ensures;
  within =
      inputs_within c.args.inputs.now c.in_ok-histories.histories.items c.in_ok-limits.limits.items
      c.if-not-are_short.ensures c.in_ok-limits.ensures c.in_ok-histories.ensures;
}

pub returns-then-not-are_short-clause-long : goal.returns-then-not-are_short-clause-long
returns-then-not-are_short-clause-long c =
    λ long. long_at_once (network_of c.args.net.now.program) c.args.inputs.now c.args.n c.if-not-are_short.ensures

pub returns-in_err-after-clause-long : goal.returns-in_err-after-clause-long
returns-in_err-after-clause-long c =
    let p = err_from_is_err_and c.from_residual-in_err-after.result c.from_residual-in_err-after.ensures.1 in
    let net = network_of c.args.net.now.program in
    rw (p.1, p.2)
    (λ h. long_at net c.args.inputs.now c.deref.result.now c.deref-in-loop-round.result.now c.loop-round.round
    c.args.n c.requires
    (c.deref-in-loop-round.ensures.value ∙ c.in_ok-limits.ensures)
    (c.deref.ensures.value ∙ c.loop-round.invariant.value) c.loop-round-test.true
    (c.in_err-after.ensures.long (other_err _ _ h)))

pub returns-then-are_same-clause-value : goal.returns-then-are_same-clause-value
returns-then-are_same-clause-value c =
    let net = network_of c.args.net.now.program in
    let agree =
    sym c.deref-in-loop-round-2.ensures.value
    ∙ (c.are_same.ensures.0 c.if-are_same.true ∙ c.deref-in-loop-round-3.ensures.value) in
    c.from_vec.ensures
    ∙ at_rest net c.args.inputs.now c.loop-round.histories.items c.in_ok-after.after.items c.loop-round.round
    c.args.n c.loop-round.invariant.value
    (c.in_ok-after.ensures.next ∙ ap (next_histories net c.args.inputs.now) c.deref.ensures.value) agree
    c.loop-round-test.true

pub returns-then-are_same-clause-not_long : goal.returns-then-are_same-clause-not_long
returns-then-are_same-clause-not_long c =
    let net = network_of c.args.net.now.program in
    let agree =
    sym c.deref-in-loop-round-2.ensures.value
    ∙ (c.are_same.ensures.0 c.if-are_same.true ∙ c.deref-in-loop-round-3.ensures.value) in
    let rest =
    at_rest net c.args.inputs.now c.loop-round.histories.items c.in_ok-after.after.items c.loop-round.round
    c.args.n c.loop-round.invariant.value
    (c.in_ok-after.ensures.next ∙ ap (next_histories net c.args.inputs.now) c.deref.ensures.value) agree
    c.loop-round-test.true in
    not_long net c.args.net.now.valid c.args.inputs.now c.loop-round.histories.items c.in_ok-limits.limits.items
    c.args.n c.requires c.in_ok-limits.ensures rest c.loop-round.invariant.within

pub loop-round-preserved : goal.loop-round-preserved
loop-round-preserved c =
    let net = network_of c.args.net.now.program in
    let limits = c.deref-in-loop-round.ensures.value ∙ c.in_ok-limits.ensures in
    let start =
    inputs_within c.args.inputs.now c.args.inputs.now c.deref-in-loop-round.result.now c.if-not-are_short.ensures limits
    refl in
    record {
      value = next_round net c.args.inputs.now c.deref.result.now c.in_ok-after.after.items c.loop-round.round
          (c.deref.ensures.value ∙ c.loop-round.invariant.value) c.in_ok-after.ensures.next;
      within =
          subst (λ (l : List ℕ). IsWithin l c.in_ok-after.after.items) c.deref-in-loop-round.ensures.value
          (c.in_ok-after.ensures.within start);
    }

pub returns-clause-not_long : goal.returns-clause-not_long
returns-clause-not_long c =
    not_long (network_of c.args.net.now.program) c.args.net.now.valid c.args.inputs.now c.loop-round.histories.items
    c.in_ok-limits.limits.items c.args.n c.requires c.in_ok-limits.ensures
    (let last : c.loop-round.round ≡ c.args.n = omega arith in
    c.loop-round.invariant.value ∙ ap (approximation (network_of c.args.net.now.program) c.args.inputs.now) last)
    c.loop-round.invariant.within

pub next-requires-clause-count : goal.next-requires-clause-count
next-requires-clause-count c = grind (arith, elements)

pub returns-then-are_same-clause-long : goal.returns-then-are_same-clause-long
returns-then-are_same-clause-long c = grind (arith, elements)
