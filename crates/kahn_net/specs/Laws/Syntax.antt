-- A chain, an if and a repetition, as code finds them, are those of their trees, and statements from one on are that
-- one and those after it.
use Rattle.std.proofs.Common.{◌≡◌, ◌∙◌, ◌+◌, ◌<◌, ℕ, List, ap, sym, refl, drop, get_or, length, Box, Vec, Global, rules}
use Rattle.std.proofs.lemmas.List.{at_drop_more}
use mathlib.Core.Former.{Count}
use Rattle.kahn_net.specs.Syntax.{Chain, LinkThen, Block, IfThen, RepeatThen, tree_of, row_of, links_of, then_of}
use Rattle.kahn_net.specs.Syntax.{row_block, block_of}
use Rattle.kahn_net.specs.declared.program.Statement.{Statement, Row_of-Statement, end_of-Statement, more_of-Statement}
use Rattle.kahn_net.specs.declared.program.Statement.{items-the_row-Statement, the_lemmas as the_statement_lemmas}
use Rattle.kahn_net.specs.declared.program.Statement.TheViews as statement
use Rattle.kahn_net.specs.declared.program.Link.{Link}
use Rattle.kahn_net.specs.declared.program.Expr.{Expr, Row_of-Link, end_of-Link, more_of-Link, items-the_row-Link}
use Rattle.kahn_net.specs.declared.program.Expr.{the_lemmas}
use Rattle.kahn_net.specs.declared.program.Expr.TheViews as view

pub row_items : {n : Count} (row : Row_of-Link n) → row_of row ≡ links_of (items-the_row-Link n row)
row_items end_of-Link = refl
row_items (more_of-Link operator value rest) = ap (LinkThen operator (tree_of value)) (row_items rest)

pub chain_of : (first : Box Expr Global) (links : Vec Link Global)
    → tree_of (view.Chain first links) ≡ Chain (tree_of first.value) (links_of links.items)
chain_of first links = search (rules, the_lemmas, row_items)

pub row_statements : {n : Count} (row : Row_of-Statement n) → row_block row ≡ block_of (items-the_row-Statement n row)
row_statements end_of-Statement = refl
row_statements (more_of-Statement s rest) = ap (then_of s) (row_statements rest)

pub if_of : (test : Expr) (first second : Vec Statement Global) (rest : Block)
    → then_of (statement.If test first second) rest
    ≡ IfThen (tree_of test) (block_of first.items) (block_of second.items) rest
if_of test first second rest = search (rules, the_statement_lemmas, row_statements)

pub repeat_of : (times : ℕ) (body : Vec Statement Global) (rest : Block)
    → then_of (statement.Repeat times body) rest ≡ RepeatThen times (block_of body.items) rest
repeat_of times body rest = search (rules, the_statement_lemmas, row_statements)

-- the statement at hand, and those after it
pub block_at : (ss : List Statement) (i : ℕ) (s : Statement) → i < length ss → s ≡ get_or ss i s
    → block_of (drop i ss) ≡ then_of s (block_of (drop (i + 1) ss))
block_at ss i s h e =
    at_drop_more block_of ss i s h ∙ ap (λ (t : Statement). then_of t (block_of (drop (i + 1) ss))) (sym e)
