use Rattle.std.proofs.Common.{refl, sym, subst, rules, ap, map, ◌∙◌, Some, None}
use Rattle.fail_script.specs.Reading.{IsLineRead}
use Rattle.fail_script.proofs.LineLaws.{shown_is, formless, no_node, line_stands}
use Rattle.fail_script.proofs.reading.read_line.Goals as goal

pub returns-in_default-clause-err : goal.returns-in_default-clause-err
returns-in_default-clause-err c = (
  refl,
  formless c.args.round c.args.text.now (shown_is c.args.text.now (search rules))
      (subst (λ ws. IsLineRead ws None) (ap (map (λ w. w.now)) c.deref.ensures.value ∙ c.in_ok-read_words.ensures)
      c.in_default.ensures),
)

pub returns-then-not-is_in_network-clause-err : goal.returns-then-not-is_in_network-clause-err
returns-then-not-is_in_network-clause-err c = (
  refl,
  no_node c.args.nodes c.args.round c.args.text.now c.in-Some.line (search rules)
      (shown_is c.args.text.now (search rules))
      (subst (λ ws. IsLineRead ws (Some c.in-Some.line))
      (ap (map (λ w. w.now)) c.deref.ensures.value ∙ c.in_ok-read_words.ensures) c.in-Some.ensures)
      c.if-line-round.false (sym c.if-not-is_in_network.ensures),
)

pub returns-clause-ok : goal.returns-clause-ok
returns-clause-ok c =
    line_stands c.args.nodes c.args.round c.args.text.now c.in-Some.line (search rules)
    (shown_is c.args.text.now (search rules))
    (subst (λ ws. IsLineRead ws (Some c.in-Some.line))
    (ap (map (λ w. w.now)) c.deref.ensures.value ∙ c.in_ok-read_words.ensures) c.in-Some.ensures)
    c.if-line-round.false (sym c.if-not-is_in_network.ensures)
