use Rattle.std.proofs.Common.{◌+◌, ◌*◌, ◌≡◌, ℕ, length, ap, subst, ◌∙◌, arith}
use Rattle.kahn_net.specs.declared.limits.TheConstants.{MAX_NESTED_TIMES}
use Rattle.std.proofs.Common.{None}
use Rattle.proc_step.specs.Stepping.{WentOn, held}
use Rattle.proc_step.proofs.Rounds.{in_passes, then_on, then_stops}
use Rattle.proc_step.proofs.machine.Machine.play_rounds.Goals as goal

pub returns-in-Some : goal.returns-in-Some
returns-in-Some c =
    let passes = c.args.passes in
    let k = length c.args.code.now in
    let rounds = passes * c.from.result in
    then_stops (passes * (MAX_NESTED_TIMES * k))
    (in_passes passes MAX_NESTED_TIMES rounds c.loop.counter k (ap (λ (n : ℕ). passes * n) c.from.ensures)
    c.loop-test.true)
    c.loop.invariant c.in_ok-flow.ensures c.in-Some.is

pub loop-preserved : goal.loop-preserved
loop-preserved c =
    let k = length c.args.code.now in
    let e : (c.loop.counter + 1) * k ≡ c.loop.counter * k + k = omega arith in
    then_on ((c.loop.counter + 1) * k) e c.loop.invariant c.in_ok-flow.ensures c.in_default.is

pub returns : goal.returns
returns c =
    let passes = c.args.passes in
    let k = length c.args.code.now in
    let all : c.loop.counter ≡ passes * c.from.result = omega (arith, c.loop-test.false, c.loop.auto.counter-end) in
    let same : c.loop.counter * k ≡ passes * (MAX_NESTED_TIMES * k) =
    ap (λ (n : ℕ). n * k) (all ∙ ap (λ (n : ℕ). passes * n) c.from.ensures)
    ∙ (let h : passes * MAX_NESTED_TIMES * k ≡ passes * (MAX_NESTED_TIMES * k) = omega arith in h) in
    subst
    (λ (n : ℕ). WentOn c.args.code.now n c.args.room.now (held c.args.self.now c.args.self.now.place c.args.stack.now) None
    (held c.loop.self c.loop.self.place c.loop.stack))
    same c.loop.invariant
