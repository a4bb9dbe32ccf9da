use Rattle.std.proofs.Common.{rules, ◌<◌, length, refl, sym, ap, subst, ◌∙◌}
use Rattle.protocol.specs.Node.Common.{RecordView, Spells}
use Rattle.std.proofs.lemmas.Grind.{elements}
use Rattle.std.proofs.Common.{arith}
use Rattle.world.proofs.reopening.reopen_node.Goals as goal

pub invariant_of-result : goal.invariant_of-result
invariant_of-result g c = record {
  kept = record {
    listed = subst (λ (kept : RecordView). c.args.number < length kept.highest) (sym c.in-Ok.ensures.opened.shows)
        c.requires.own.listed;
    named = ap (λ (kept : RecordView). kept.node) c.in-Ok.ensures.opened.shows ∙ c.requires.own.named;
    ready = λ up. absurd (cc);
    settled = c.in-Ok.ensures.opened.settled;
  };
}

pub returns-clause-opened : goal.returns-clause-opened
returns-clause-opened g c =
    let opened = c.in-Ok.ensures.opened in
    record {
      number_is = refl;
      view = grind (arith, elements);
      left = λ left might. subst (Spells _) (sym (opened.settled left might)) opened.holds;
      failures = opened.failures;
      armed = opened.armed;
      counted = opened.counted;
      room = opened.room;
      as_left = opened.as_left;
    }
