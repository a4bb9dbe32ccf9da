use Rattle.std.proofs.Common.{◌+◌, ◌≤◌, ◌++◌, ℤ, List, length, sym, ap, subst, ◌∙◌}
use Rattle.kahn_net.specs.declared.limits.TheConstants.{MAX_COUNT}
use Rattle.arrived.specs.ArrivedView.{ListView}
use Rattle.arrived.proofs.Listing.{kept_longer}
use Rattle.arrived.proofs.list.ArrivedList.append.Goals as goal

pub invariant_of-self-2 : goal.invariant_of-self-2
invariant_of-self-2 c =
    kept_longer c.self.inside.first.value c.self.inside.later c.note_each.new.later c.self.inside.base
    c.self.inside.items.items c.push_each.new.kept.items c.args.items.now c.self.invariant
    (subst (λ (l : ListView). length l.came + length c.args.items.now ≤ MAX_COUNT) (sym c.self.view_is) c.requires)
    c.note_each.ensures
    (c.push_each.ensures ∙ ap (λ (l : List ℤ). l ++ c.args.items.now) c.reserve.ensures.items)
