-- Trees of the text, as code finds them: a chain, a negation and an if are those of their parts.
use Rattle.std.proofs.Common.{◌≡◌, ℕ, map, ap, refl, Box, Vec, Global, rules}
use mathlib.Core.Former.{Count}
use Rattle.net_text.specs.Trees.{ChainTree, LinkThenTree, BlockTree, IfTree, RepeatTree, expr_tree, row_tree}
use Rattle.net_text.specs.Trees.{link_tree}
use Rattle.net_text.specs.Trees.{links_tree, then_tree, row_block, block_tree}
use Rattle.net_text.specs.declared.tree.LinkText.{LinkText}
use Rattle.net_text.specs.declared.tree.ExprText.{ExprText, Row_of-LinkText, end_of-LinkText, more_of-LinkText}
use Rattle.net_text.specs.declared.tree.ExprText.{items-the_row-LinkText, the_lemmas}
use Rattle.net_text.specs.declared.tree.ExprText.TheViews.{Chain}
use Rattle.net_text.specs.declared.tree.StatementText.{StatementText, Row_of-StatementText, end_of-StatementText}
use Rattle.net_text.specs.declared.tree.StatementText.{more_of-StatementText, items-the_row-StatementText}
use Rattle.net_text.specs.declared.tree.StatementText.{the_lemmas as the_statement_lemmas}
use Rattle.net_text.specs.declared.tree.StatementText.TheViews as statement

pub row_items : {n : Count} (row : Row_of-LinkText n)
    → row_tree row ≡ links_tree (map link_tree (items-the_row-LinkText n row))
row_items end_of-LinkText = refl
row_items (more_of-LinkText operator value rest) = ap (LinkThenTree operator (expr_tree value)) (row_items rest)

pub chain_tree : (first : Box ExprText Global) (links : Vec LinkText Global)
    → expr_tree (Chain first links) ≡ ChainTree (expr_tree first.value) (links_tree (map link_tree links.items))
chain_tree first links = search (rules, the_lemmas, row_items)

pub row_statements : {n : Count} (row : Row_of-StatementText n)
    → row_block row ≡ block_tree (items-the_row-StatementText n row)
row_statements end_of-StatementText = refl
row_statements (more_of-StatementText s rest) = ap (then_tree s) (row_statements rest)

pub if_tree : (test : ExprText) (first second : Vec StatementText Global) (rest : BlockTree)
    → then_tree (statement.If test first second) rest
    ≡ IfTree (expr_tree test) (block_tree first.items) (block_tree second.items) rest
if_tree test first second rest = search (rules, the_statement_lemmas, row_statements)

pub repeat_tree : (times line : ℕ) (body : Vec StatementText Global) (rest : BlockTree)
    → then_tree (statement.Repeat times line body) rest ≡ RepeatTree times line (block_tree body.items) rest
repeat_tree times line body rest = search (rules, the_statement_lemmas, row_statements)
