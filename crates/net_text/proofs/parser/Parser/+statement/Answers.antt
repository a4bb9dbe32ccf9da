use Rattle.std.proofs.Common.{◌≡◌, Ok, sym, ◌∙◌, rules}
use Rattle.net_text.specs.Trees.{expr_tree, block_tree, then_tree, NothingTree, IfTree, RepeatTree}
use Rattle.net_text.proofs.Loops.{statement_shortens, statements_more, statements_end, if_made, repeat_made}
use Rattle.net_text.specs.Editions.{Ranged}
use Rattle.net_text.specs.Reading.{if_at, else_at, repeat_at}
use Rattle.net_text.proofs.Openings.{block_steps}
use Rattle.std.proofs.lemmas.Grind.{elements}
use Rattle.std.proofs.Common.{arith}
use Rattle.net_text.proofs.parser.Parser.+statement.Goals as goal

pub statements-loop-edition-smaller : goal.statements-loop-edition-smaller
statements-loop-edition-smaller t c =
    statement_shortens c.args.edition Ranged c.args.left c.loop-edition.self
    (then_tree c.in_ok-statement.statement NothingTree, c.statement.new.self) c.in_ok-statement.ensures

pub statements-loop-edition-preserved : goal.statements-loop-edition-preserved
statements-loop-edition-preserved t c =
    rw c.in_ok-push.ensures.items
    (sym (statements_more c.args.edition Ranged c.args.left c.loop-edition.statements.items c.in_ok-statement.statement c.loop-edition.self
    c.statement.new.self (sym c.loop-edition-test.ensures) c.in_ok-statement.ensures) ∙ c.loop-edition.invariant)

pub statements-returns : goal.statements-returns
statements-returns t c =
    sym c.loop-edition.invariant
    ∙ statements_end c.args.edition Ranged c.args.left (block_tree c.loop-edition.statements.items) c.loop-edition.self
    (sym c.loop-edition-test.ensures)

pub block-returns-in_err-opening : goal.block-returns-in_err-opening
block-returns-in_err-opening t c = let e = block_steps c.args.edition Ranged c.args.left c.args.self.now in rw e (grind (arith, elements))

pub block-returns-in_err-statements : goal.block-returns-in_err-statements
block-returns-in_err-statements t c = let e = block_steps c.args.edition Ranged c.args.left c.args.self.now in rw e (search rules)

pub block-returns-in_err-symbol : goal.block-returns-in_err-symbol
block-returns-in_err-symbol t c = let e = block_steps c.args.edition Ranged c.args.left c.args.self.now in rw e (grind (arith, elements))

pub block-returns : goal.block-returns
block-returns t c = let e = block_steps c.args.edition Ranged c.args.left c.args.self.now in rw e (search rules)

pub conditional-returns : goal.conditional-returns
unfolding if_at else_at
conditional-returns t c =
    let e : if_at c.args.edition Ranged c.args.left c.args.self.now
    ≡ Ok (
      IfTree (expr_tree c.in_ok-test.test) (block_tree c.in_ok-first.first.items)
          (block_tree c.in_ok-second.second.items) NothingTree,
      c.otherwise.new.self,
    ) = grind (arith, elements) in
    if_made (if_at c.args.edition Ranged c.args.left c.args.self.now) c.in_ok-test.test c.in_ok-first.first c.in_ok-second.second
    c.otherwise.new.self e

pub repeat-returns : goal.repeat-returns
unfolding repeat_at
repeat-returns t c =
    let e : repeat_at c.args.edition Ranged c.args.left c.args.self.now
    ≡ Ok (
      RepeatTree c.in_ok-times.times c.in_ok-line.line (block_tree c.in_ok-body.body.items) NothingTree,
      c.block.new.self,
    ) = search rules in
    repeat_made (repeat_at c.args.edition Ranged c.args.left c.args.self.now) c.in_ok-times.times c.in_ok-line.line
    c.in_ok-body.body c.block.new.self e
