use Rattle.std.proofs.Common.{◌≡◌, ◌≤◌, ◌+◌, ◌*◌, ◌∙◌, ℕ, Option, None, Some, List, ℤ, length, take, ap, sym, subst}
use Rattle.std.proofs.Common.{refl, arith}
use Rattle.std.proofs.lemmas.List.{take_all}
use Rattle.kahn_net.specs.declared.limits.TheConstants.{MAX_NESTED_TIMES}
use Rattle.kahn_net.specs.Common.{total}
use Rattle.proc_step.specs.Stepping.{WentOn}
use Rattle.proc_step.specs.declared.machine.Flow.{Flow}
use Rattle.proc_step.proofs.Rounds.{in_items, one_list, then_on, then_stops, part_made, not_past}
use Rattle.proc_step.proofs.machine.Machine.play.Goals as goal

pub returns-in-Some : goal.returns-in-Some
returns-in-Some c t runs =
    let k = MAX_NESTED_TIMES * length c.args.code.now in
    let n = total c.args.items.now in
    let few : 2 * k ≤ (n + 2) * k = omega arith in
    part_made ((n + 2) * k) t few c.in_ok-flow.ensures c.in-Some.is runs

pub loop-list-init : goal.loop-list-init
loop-list-init c =
    subst (λ (o : Option Flow). WentOn c.args.code.now (2 * (MAX_NESTED_TIMES * length c.args.code.now)) c.args.room.now
    c.args.self.now o c.play_passes.new.self) c.in_default.is c.in_ok-flow.ensures

pub returns-in-Some-2 : goal.returns-in-Some-2
returns-in-Some-2 c t runs =
    let l = c.loop-list in
    let items = c.args.items.now in
    let k = MAX_NESTED_TIMES * length c.args.code.now in
    let before = (total (take l.list-index items) + 2) * k in
    let all = (total items + 2) * k in
    let few = subst (λ (n : ℕ). before + n * k ≤ all) (sym c.len.ensures)
    (in_items items l.list-index c.list-item.result k c.loop-list-test.true c.list-item.is) in
    let w : WentOn c.args.code.now all c.args.room.now c.args.self.now (Some c.in-Some-2.flow)
    c.play_passes-in-loop-list.new.self = then_stops all few l.invariant c.in_ok-flow-2.ensures c.in-Some-2.is in
    let same : all ≤ all = omega arith in
    part_made all t same w refl runs

pub loop-list-preserved : goal.loop-list-preserved
loop-list-preserved c =
    let l = c.loop-list in
    let items = c.args.items.now in
    let k = MAX_NESTED_TIMES * length c.args.code.now in
    let before = (total (take l.list-index items) + 2) * k in
    then_on ((total (take (l.list-index + 1) items) + 2) * k)
    (one_list items l.list-index c.list-item.result k c.loop-list-test.true c.list-item.is
    ∙ ap (λ (n : ℕ). before + n * k) (sym c.len.ensures))
    l.invariant c.in_ok-flow-2.ensures c.in_default-2.is

pub returns : goal.returns
returns c t runs =
    let l = c.loop-list in
    let items = c.args.items.now in
    let k = MAX_NESTED_TIMES * length c.args.code.now in
    let all : take l.list-index items ≡ items = take_all l.list-index items (omega (arith, c.loop-list-test.false)) in
    absurd (not_past t
    (subst (λ (x : List (List ℤ)). WentOn c.args.code.now ((total x + 2) * k) c.args.room.now c.args.self.now None
    l.self)
    all l.invariant) runs)
