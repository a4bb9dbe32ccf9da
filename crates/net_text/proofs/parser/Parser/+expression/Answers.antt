use Rattle.std.proofs.Common.{◌≡◌, sym, ◌∙◌, rules}
use Rattle.net_text.specs.Trees.{link_tree}
use Rattle.net_text.proofs.Loops.{link_shortens, links_more}
use Rattle.net_text.proofs.Openings.{parenthesised_steps, minus_steps, factor_parenthesised, factor_minus, factor_atom}
use Rattle.std.proofs.lemmas.Grind.{elements}
use Rattle.std.proofs.Common.{arith}
use Rattle.net_text.proofs.parser.Parser.+expression.Goals as goal

pub factor-returns-then-begins_with_symbol : goal.factor-returns-then-begins_with_symbol
factor-returns-then-begins_with_symbol t c = let e =
    factor_parenthesised c.args.edition c.args.left c.args.self.now
    (sym c.begins_with_symbol.ensures ∙ c.if-begins_with_symbol.true) in rw e c.parenthesised.ensures

pub factor-returns-then-begins_with_symbol-2 : goal.factor-returns-then-begins_with_symbol-2
factor-returns-then-begins_with_symbol-2 t c =
    let e = factor_minus c.args.edition c.args.left c.args.self.now (sym c.begins_with_symbol.ensures ∙ c.if-begins_with_symbol.false)
    (sym c.begins_with_symbol-2.ensures ∙ c.if-begins_with_symbol-2.true) in
    rw e c.minus.ensures

pub factor-returns : goal.factor-returns
factor-returns t c =
    let e = factor_atom c.args.edition c.args.left c.args.self.now (sym c.begins_with_symbol.ensures ∙ c.if-begins_with_symbol.false)
    (sym c.begins_with_symbol-2.ensures ∙ c.if-begins_with_symbol-2.false) in
    rw e c.atom.ensures

pub links-loop-edition-smaller : goal.links-loop-edition-smaller
links-loop-edition-smaller t c =
    link_shortens c.args.edition c.args.level c.args.left c.loop-edition.self (link_tree c.in_ok-link.link, c.link.new.self)
    c.in_ok-link.ensures

pub links-loop-edition-preserved : goal.links-loop-edition-preserved
links-loop-edition-preserved t c =
    rw c.in_ok-push.ensures.items
    (sym (links_more c.args.edition c.args.level c.args.left c.loop-edition.links.items c.in_ok-link.link c.loop-edition.self
    c.link.new.self (sym c.loop-edition-test.ensures) c.in_ok-link.ensures) ∙ c.loop-edition.invariant)

pub parenthesised-returns-in_err-opening : goal.parenthesised-returns-in_err-opening
parenthesised-returns-in_err-opening t c = let e = parenthesised_steps c.args.edition c.args.left c.args.self.now in
    rw e (search rules)

pub parenthesised-returns-in_err-value : goal.parenthesised-returns-in_err-value
parenthesised-returns-in_err-value t c = let e = parenthesised_steps c.args.edition c.args.left c.args.self.now in rw e (search rules)

pub parenthesised-returns-in_err-symbol : goal.parenthesised-returns-in_err-symbol
parenthesised-returns-in_err-symbol t c = let e = parenthesised_steps c.args.edition c.args.left c.args.self.now in rw e (grind (arith, elements))

pub parenthesised-returns : goal.parenthesised-returns
parenthesised-returns t c = let e = parenthesised_steps c.args.edition c.args.left c.args.self.now in rw e (search rules)

pub minus-returns-in_err-opening : goal.minus-returns-in_err-opening
minus-returns-in_err-opening t c = let e = minus_steps c.args.edition c.args.left c.args.self.now in rw e (grind (arith, elements))

pub minus-returns-in_err-value : goal.minus-returns-in_err-value
minus-returns-in_err-value t c = let e = minus_steps c.args.edition c.args.left c.args.self.now in rw e (grind (arith, elements))

pub minus-returns : goal.minus-returns
minus-returns t c =
    let e = minus_steps c.args.edition c.args.left c.args.self.now in
    let kept : c.in_ok-new.field-0.value ≡ c.in_ok-value.value = grind (arith, elements) in
    rw (e, kept) (grind (arith, elements))
