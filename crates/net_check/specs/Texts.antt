-- The units of a text's statements, and whether they pass, counted over the text as over the network that it is
-- resolved to.
use Rattle.std.specs.Prelude.{ℕ, suc, ◌+◌, ◌-◌, ◌*◌, Bool, true, false, ◌&&◌, ◌||◌, nat_lt, cond, Option, Some, None}
use Rattle.net_text.specs.Trees.{ExprTree, LiteralTree, VariableTree, MinusTree, ChainTree, LinksTree, NoLinksTree}
use Rattle.net_text.specs.Trees.{LinkThenTree, BlockTree, NothingTree, GetTree, AssignTree, PutTree, StopTree, IfTree}
use Rattle.net_text.specs.Trees.{RepeatTree, LoopTree, ProcessTree}
use Rattle.kahn_net.specs.Common.{is_repeat_within}
use Rattle.kahn_net.specs.declared.limits.TheConstants.{MAX_REPEATS}

-- each literal, each variable in an expression, each operator and each minus of one value is one unit
abbrev mutual
  pub expr_units_text : ExprTree → ℕ
  expr_units_text (LiteralTree n) = 1
  expr_units_text (VariableTree name) = 1
  expr_units_text (MinusTree value) = suc (expr_units_text value)
  expr_units_text (ChainTree first links) = expr_units_text first + links_units_text links

  pub links_units_text : LinksTree → ℕ
  links_units_text NoLinksTree = 0
  links_units_text (LinkThenTree operator value rest) = suc (expr_units_text value + links_units_text rest)

-- and so is each statement, those of an if's blocks and of a repetition's too; a repetition's number is one more
abbrev pub block_units_text : BlockTree → ℕ
block_units_text NothingTree = 0
block_units_text (GetTree v c rest) = suc (block_units_text rest)
block_units_text (AssignTree v e rest) = suc (expr_units_text e + block_units_text rest)
block_units_text (PutTree e c rest) = suc (expr_units_text e + block_units_text rest)
block_units_text (StopTree rest) = suc (block_units_text rest)
block_units_text (IfTree test first second rest) =
    suc (expr_units_text test + (block_units_text first + (block_units_text second + block_units_text rest)))
block_units_text (RepeatTree times line body rest) = suc (suc (block_units_text body + block_units_text rest))

abbrev pub loop_units_text : Option LoopTree → ℕ
loop_units_text None = 0
loop_units_text (Some repeated) = block_units_text repeated.body

abbrev pub process_units_text : ProcessTree → ℕ
process_units_text p = block_units_text p.prelude + loop_units_text p.repeated

-- Statements pass where one of them passes: a get and a stop do, an if both of whose blocks do, and a repetition that is
-- made at all and whose block does.
abbrev pub is_passing_text : BlockTree → Bool
is_passing_text NothingTree = false
is_passing_text (GetTree v c rest) = true
is_passing_text (AssignTree v e rest) = is_passing_text rest
is_passing_text (PutTree e c rest) = is_passing_text rest
is_passing_text (StopTree rest) = true
is_passing_text (IfTree test first second rest) =
    (is_passing_text first && is_passing_text second) || is_passing_text rest
is_passing_text (RepeatTree times line body rest) =
    (nat_lt 0 times && is_passing_text body) || is_passing_text rest

-- the first of two lines
abbrev pub or_line : Option ℕ → Option ℕ → Option ℕ
or_line None other = other
or_line (Some line) other = Some line

-- the line of the first repetition that is past its limits, where so many more may be opened and those round these
-- statements are made so often in all
abbrev pub past_line : ℕ → ℕ → BlockTree → Option ℕ
past_line open_yet round NothingTree = None
past_line open_yet round (GetTree v c rest) = past_line open_yet round rest
past_line open_yet round (AssignTree v e rest) = past_line open_yet round rest
past_line open_yet round (PutTree e c rest) = past_line open_yet round rest
past_line open_yet round (StopTree rest) = past_line open_yet round rest
past_line open_yet round (IfTree test first second rest) =
    or_line (past_line open_yet round first)
    (or_line (past_line open_yet round second) (past_line open_yet round rest))
past_line open_yet round (RepeatTree times line body rest) =
    cond (is_repeat_within open_yet round times)
    (or_line (past_line (open_yet - 1) (round * times) body) (past_line open_yet round rest)) (Some line)

abbrev pub loop_past_line : Option LoopTree → Option ℕ
loop_past_line None = None
loop_past_line (Some repeated) = past_line MAX_REPEATS 1 repeated.body

-- the same of a process
abbrev pub process_past_line : ProcessTree → Option ℕ
process_past_line p = or_line (past_line MAX_REPEATS 1 p.prelude) (loop_past_line p.repeated)
