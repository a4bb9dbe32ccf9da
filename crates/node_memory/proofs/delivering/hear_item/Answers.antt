use Rattle.std.proofs.Common.{◌≡◌, ℤ, get_or, ap, sym, ◌∙◌, rules, to_z, of_z, w64}
use Rattle.protocol.specs.Node.Common.{taking}
use Rattle.protocol.specs.Node.Delivering.{inbox_place}
use Rattle.node_memory.proofs.Pops.{changed_here}
use Rattle.std.proofs.Common.{arith}
use Rattle.std.proofs.lemmas.Grind.{common_steps}
use Rattle.node_memory.proofs.delivering.hear_item.Goals as goal

pub returns-in_ok-take_item-in-Some-clause-ok : goal.returns-in_ok-take_item-in-Some-clause-ok
returns-in_ok-take_item-in-Some-clause-ok c =
    let whole : to_z w64 (of_z w64 c.args.item) ≡ c.args.item = search rules in
    changed_here (taking c.args.position c.args.item) c.args.inboxes.now c.in-Some.place
    (inbox_place c.args.inboxes.now c.args.channel) c.index-inboxes-place.result c.take_item.new.inbox
    c.in-Some.ensures.place c.in-Some.ensures.below c.index-inboxes-place.is
    (c.in_ok-take_item-in-Some.ensures.ok ∙ ap (λ (i : ℤ). taking c.args.position i
    (get_or c.args.inboxes.now c.in-Some.place c.index-inboxes-place.result)) whole
    ∙ ap (taking c.args.position c.args.item) (sym c.index-inboxes-place.is))

pub returns-in_err-take_item-in-Some-clause-err : goal.returns-in_err-take_item-in-Some-clause-err
returns-in_err-take_item-in-Some-clause-err c = grind (arith, common_steps)
