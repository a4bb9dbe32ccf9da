use Rattle.std.proofs.Common.{◌∙◌, List, ◌++◌, [], ◌∷◌, ap, max, min, sym, subst}
use Rattle.wire.specs.Index.{AreFrom, AreUpTo, IsIndex}
use Rattle.wire.specs.Rules.{changed, fate_of}
use Rattle.wire.specs.declared.rule.Fate.{Fate}
use Rattle.wire.specs.declared.rule.Rule.{Rule}
use Rattle.wire.proofs.Indexed.{armed_index, still_from, still_up_to}
use Rattle.wire.proofs.rules.Rules.arm.Goals as goal

pub invariant_of-self-2 : goal.invariant_of-self-2
invariant_of-self-2 c =
    let rule = c.args.rule in
    let before = c.self.inside in
    let list = before.list.items in
    let longer = sym (c.push_reserved.ensures.items ∙ ap (λ (rules : List Rule). rules ++ rule ∷ []) c.reserve.ensures.items) in (
      subst (λ (rules : List Rule). IsIndex rules c.insert.new.self) longer
          (armed_index list before.fates c.insert.new.self rule c.changed_by-fate.result c.self.invariant.0
          (c.changed_by-fate.ensures
          ∙ (ap (λ (fate : Fate). changed fate rule.change) c.fate.ensures
          ∙ ap (λ (rules : List Rule). changed (fate_of rules rule.from rule.to rule.nth) rule.change)
          (sym c.self.view_is)))
          (c.in_ok-insert.ensures.updates).0),
      subst (AreFrom c.push_reserved.new.self.items) (sym c.min-self-inside.ensures)
          (subst (λ (rules : List Rule). AreFrom rules (min before.least rule.nth)) longer
          (still_from list rule before.least c.self.invariant.1)),
      subst (AreUpTo c.push_reserved.new.self.items) (sym c.max-self-inside.ensures)
          (subst (λ (rules : List Rule). AreUpTo rules (max before.most rule.nth)) longer
          (still_up_to list rule before.most c.self.invariant.2)),
    )
