-- Ifs and repetitions of the text, and what they are resolved to.
use Rattle.std.proofs.Common.{◌≡◌, ◌∙◌, ℕ, suc, ◌+◌, List, ◌++◌, [], sym, ap, subst, refl, Bool, true, false, ◌||◌}
use Rattle.std.proofs.Common.{nat_lt, cond, ◌-◌, ◌*◌, Option, Some, None, ◌&&◌, Vec, Global, rules}
use mathlib.Core.Former.{Count}
use Rattle.net_text.specs.Names.{NameTree}
use Rattle.net_text.specs.Trees.{BlockTree, NothingTree, IfTree, RepeatTree, block_tree, expr_tree, row_block}
use Rattle.net_text.specs.Trees.{then_tree}
use Rattle.net_text.specs.declared.tree.ExprText.{ExprText}
use Rattle.net_text.specs.declared.tree.StatementText.{StatementText, Row_of-StatementText, end_of-StatementText}
use Rattle.net_text.specs.declared.tree.StatementText.{more_of-StatementText, items-the_row-StatementText, the_lemmas}
use Rattle.net_text.specs.declared.tree.StatementText.TheViews as text
use Rattle.kahn_net.specs.declared.program.Expr.{Expr}
use Rattle.kahn_net.specs.declared.program.Statement.{Statement}
use Rattle.kahn_net.specs.declared.program.Statement.TheViews as view
use Rattle.kahn_net.specs.Common.{Block, Nothing, block_of, then_of, tree_of, block_gets, block_puts}
use Rattle.kahn_net.specs.Common.{is_repeat_within}
use Rattle.kahn_net.specs.Laws.Syntax.{if_of, repeat_of}
use Rattle.net_check.specs.Resolution.{ResolvesBlock, ResolvesExpr}
use Rattle.net_check.specs.Texts.{block_units_text, expr_units_text, is_passing_text, or_line, past_line}
use Rattle.kahn_net.specs.declared.program.Port.{Port}
use Rattle.net_text.specs.declared.tree.ChannelText.{ChannelText}
use Rattle.net_text.specs.declared.tree.Role.{Role}
use Rattle.net_check.specs.Claims.{Claims}
use Rattle.net_check.specs.UseLaws.{has_first, has_second}
use Rattle.net_check.specs.Uses.{block_uses, expr_uses}
use Rattle.net_check.proofs.Using.{Within, within_left}

row_statements : {n : Count} (row : Row_of-StatementText n)
    → row_block row ≡ block_tree (items-the_row-StatementText n row)
row_statements end_of-StatementText = refl
row_statements (more_of-StatementText s rest) = ap (then_tree s) (row_statements rest)

if_tree : (test : ExprText) (first second : Vec StatementText Global) (rest : BlockTree)
    → then_tree (text.If test first second) rest
    ≡ IfTree (expr_tree test) (block_tree first.items) (block_tree second.items) rest
if_tree test first second rest = search (rules, the_lemmas, row_statements)

-- the tree of a statement that code finds to be an if, whose blocks code reads as these lists
pub tree_is_if : (t : StatementText) (test : ExprText) (first second : Vec StatementText Global)
    (ones others : List StatementText) → t ≡ text.If test first second → ones ≡ first.items → others ≡ second.items
    → then_tree t NothingTree ≡ IfTree (expr_tree test) (block_tree ones) (block_tree others) NothingTree
tree_is_if t test first second ones others h k l =
    ap (λ (s : StatementText). then_tree s NothingTree) h ∙ if_tree test first second NothingTree
    ∙ ap (λ (ts : List StatementText). IfTree (expr_tree test) (block_tree ts) (block_tree second.items) NothingTree)
    (sym k)
    ∙ ap (λ (ts : List StatementText). IfTree (expr_tree test) (block_tree ones) (block_tree ts) NothingTree) (sym l)

-- its units
pub if_units : (t : StatementText) (test : ExprText) (first second : Vec StatementText Global)
    (ones others : List StatementText) → t ≡ text.If test first second → ones ≡ first.items → others ≡ second.items
    → block_units_text (then_tree t NothingTree)
    ≡ suc (expr_units_text (expr_tree test)
    + (block_units_text (block_tree ones) + (block_units_text (block_tree others) + 0)))
if_units t test first second ones others h k l = ap block_units_text (tree_is_if t test first second ones others h k l)

-- whether it passes
or_none : (b : Bool) → b || false ≡ b
or_none true = refl
or_none false = refl

pub if_passes : (t : StatementText) (test : ExprText) (first second : Vec StatementText Global)
    (ones others : List StatementText) → t ≡ text.If test first second → ones ≡ first.items → others ≡ second.items
    → is_passing_text (then_tree t NothingTree)
    ≡ is_passing_text (block_tree ones) && is_passing_text (block_tree others)
if_passes t test first second ones others h k l =
    ap is_passing_text (tree_is_if t test first second ones others h k l)
    ∙ or_none (is_passing_text (block_tree ones) && is_passing_text (block_tree others))

-- what its test and its blocks use
pub within_test : (t : StatementText) (test : ExprText) (first second : Vec StatementText Global)
    → t ≡ text.If test first second → Within (expr_uses (expr_tree test)) (block_uses (then_tree t NothingTree))
within_test t test first second h =
    subst (λ (b : BlockTree). Within (expr_uses (expr_tree test)) (block_uses b))
    (sym (tree_is_if t test first second first.items second.items h refl refl))
    (within_left (expr_uses (expr_tree test))
    (block_uses (block_tree first.items) ++ (block_uses (block_tree second.items) ++ [])))

pub within_first : (t : StatementText) (test : ExprText) (first second : Vec StatementText Global)
    (ones : List StatementText) → t ≡ text.If test first second → ones ≡ first.items
    → Within (block_uses (block_tree ones)) (block_uses (then_tree t NothingTree))
within_first t test first second ones h k =
    subst (λ (b : BlockTree). Within (block_uses (block_tree ones)) (block_uses b))
    (sym (tree_is_if t test first second ones second.items h k refl))
    record {
      all =
          has_first (expr_uses (expr_tree test)) (block_uses (block_tree ones)) (block_uses (block_tree second.items))
          [];
    }

pub within_second : (t : StatementText) (test : ExprText) (first second : Vec StatementText Global)
    (others : List StatementText) → t ≡ text.If test first second → others ≡ second.items
    → Within (block_uses (block_tree others)) (block_uses (then_tree t NothingTree))
within_second t test first second others h l =
    subst (λ (b : BlockTree). Within (block_uses (block_tree others)) (block_uses b))
    (sym (tree_is_if t test first second first.items others h refl l))
    record {
      all =
          has_second (expr_uses (expr_tree test)) (block_uses (block_tree first.items)) (block_uses (block_tree others))
          [];
    }

-- an if is resolved to an if
pub if_resolves : (cs vs : List NameTree) (t : StatementText) (test : ExprText)
    (first second : Vec StatementText Global) (ones others : List StatementText) (e : Expr)
    (one other : Vec Statement Global) → t ≡ text.If test first second → ones ≡ first.items → others ≡ second.items
    → ResolvesExpr vs (expr_tree test) (tree_of e) → ResolvesBlock cs vs (block_tree ones) (block_of one.items)
    → ResolvesBlock cs vs (block_tree others) (block_of other.items)
    → ResolvesBlock cs vs (then_tree t NothingTree) (then_of (view.If e one other) Nothing)
if_resolves cs vs t test first second ones others e one other h k l a b c =
    subst (λ (x : BlockTree). ResolvesBlock cs vs x (then_of (view.If e one other) Nothing))
    (sym (tree_is_if t test first second ones others h k l))
    (subst (λ (x : Block). ResolvesBlock cs vs
    (IfTree (expr_tree test) (block_tree ones) (block_tree others) NothingTree) x)
    (sym (if_of e one other Nothing)) (a, b, c, tt))

-- the channels that it uses are those of its blocks
or_none_last : (a b : Bool) → a || (b || false) ≡ a || b
or_none_last a b = ap (λ (x : Bool). a || x) (or_none b)

pub if_puts : (c : ℕ) (e : Expr) (one other : Vec Statement Global)
    → block_puts c (then_of (view.If e one other) Nothing)
    ≡ block_puts c (block_of one.items) || block_puts c (block_of other.items)
if_puts c e one other =
    ap (block_puts c) (if_of e one other Nothing)
    ∙ or_none_last (block_puts c (block_of one.items)) (block_puts c (block_of other.items))

pub if_gets : (c : ℕ) (e : Expr) (one other : Vec Statement Global)
    → block_gets c (then_of (view.If e one other) Nothing)
    ≡ block_gets c (block_of one.items) || block_gets c (block_of other.items)
if_gets c e one other =
    ap (block_gets c) (if_of e one other Nothing)
    ∙ or_none_last (block_gets c (block_of one.items)) (block_gets c (block_of other.items))

-- ---- repetitions

repeat_tree : (times line : ℕ) (body : Vec StatementText Global) (rest : BlockTree)
    → then_tree (text.Repeat times line body) rest ≡ RepeatTree times line (block_tree body.items) rest
repeat_tree times line body rest = search (rules, the_lemmas, row_statements)

-- the tree of a statement that code finds to be a repetition, whose block code reads as this list
pub tree_is_repeat : (t : StatementText) (times line : ℕ) (body : Vec StatementText Global)
    (ones : List StatementText) → t ≡ text.Repeat times line body → ones ≡ body.items
    → then_tree t NothingTree ≡ RepeatTree times line (block_tree ones) NothingTree
tree_is_repeat t times line body ones h k =
    ap (λ (s : StatementText). then_tree s NothingTree) h ∙ repeat_tree times line body NothingTree
    ∙ ap (λ (ts : List StatementText). RepeatTree times line (block_tree ts) NothingTree) (sym k)

pub repeat_units : (t : StatementText) (times line : ℕ) (body : Vec StatementText Global)
    (ones : List StatementText) → t ≡ text.Repeat times line body → ones ≡ body.items
    → block_units_text (then_tree t NothingTree) ≡ suc (suc (block_units_text (block_tree ones) + 0))
repeat_units t times line body ones h k = ap block_units_text (tree_is_repeat t times line body ones h k)

pub repeat_passes : (t : StatementText) (times line : ℕ) (body : Vec StatementText Global)
    (ones : List StatementText) → t ≡ text.Repeat times line body → ones ≡ body.items
    → is_passing_text (then_tree t NothingTree) ≡ nat_lt 0 times && is_passing_text (block_tree ones)
repeat_passes t times line body ones h k =
    ap is_passing_text (tree_is_repeat t times line body ones h k)
    ∙ or_none (nat_lt 0 times && is_passing_text (block_tree ones))

or_no_line : (a : Option ℕ) → or_line a None ≡ a
or_no_line None = refl
or_no_line (Some line) = refl

pub if_past : (open_yet round : ℕ) (t : StatementText) (test : ExprText) (first second : Vec StatementText Global)
    (ones others : List StatementText) → t ≡ text.If test first second → ones ≡ first.items → others ≡ second.items
    → past_line open_yet round (then_tree t NothingTree)
    ≡ or_line (past_line open_yet round (block_tree ones)) (past_line open_yet round (block_tree others))
if_past o m t test first second ones others h k l =
    ap (past_line o m) (tree_is_if t test first second ones others h k l)
    ∙ ap (or_line (past_line o m (block_tree ones))) (or_no_line (past_line o m (block_tree others)))

pub repeat_past : (open_yet round : ℕ) (t : StatementText) (times line : ℕ) (body : Vec StatementText Global)
    (ones : List StatementText) → t ≡ text.Repeat times line body → ones ≡ body.items
    → past_line open_yet round (then_tree t NothingTree)
    ≡ cond (is_repeat_within open_yet round times) (past_line (open_yet - 1) (round * times) (block_tree ones))
    (Some line)
repeat_past o m t times line body ones h k =
    ap (past_line o m) (tree_is_repeat t times line body ones h k)
    ∙ ap (λ (x : Option ℕ). cond (is_repeat_within o m times) x (Some line))
    (or_no_line (past_line (o - 1) (m * times) (block_tree ones)))

pub within_body : (t : StatementText) (times line : ℕ) (body : Vec StatementText Global)
    (ones : List StatementText) → t ≡ text.Repeat times line body → ones ≡ body.items
    → Within (block_uses (block_tree ones)) (block_uses (then_tree t NothingTree))
within_body t times line body ones h k =
    subst (λ (b : BlockTree). Within (block_uses (block_tree ones)) (block_uses b))
    (sym (tree_is_repeat t times line body ones h k)) (within_left (block_uses (block_tree ones)) [])

pub repeat_resolves : (cs vs : List NameTree) (t : StatementText) (times line : ℕ) (body : Vec StatementText Global)
    (ones : List StatementText) (one : Vec Statement Global) → t ≡ text.Repeat times line body → ones ≡ body.items
    → ResolvesBlock cs vs (block_tree ones) (block_of one.items)
    → ResolvesBlock cs vs (then_tree t NothingTree) (then_of (view.Repeat times one) Nothing)
repeat_resolves cs vs t times line body ones one h k a =
    subst (λ (x : BlockTree). ResolvesBlock cs vs x (then_of (view.Repeat times one) Nothing))
    (sym (tree_is_repeat t times line body ones h k))
    (subst (λ (x : Block). ResolvesBlock cs vs (RepeatTree times line (block_tree ones) NothingTree) x)
    (sym (repeat_of times one Nothing)) (refl, a, tt))

pub repeat_puts : (c times : ℕ) (one : Vec Statement Global)
    → block_puts c (then_of (view.Repeat times one) Nothing) ≡ block_puts c (block_of one.items)
repeat_puts c times one =
    ap (block_puts c) (repeat_of times one Nothing) ∙ or_none (block_puts c (block_of one.items))

pub repeat_gets : (c times : ℕ) (one : Vec Statement Global)
    → block_gets c (then_of (view.Repeat times one) Nothing) ≡ block_gets c (block_of one.items)
repeat_gets c times one =
    ap (block_gets c) (repeat_of times one Nothing) ∙ or_none (block_gets c (block_of one.items))

-- claims of uses that are the same
pub claims_same : (channels : List ChannelText) (role : Role) (p : ℕ) (f g : ℕ → Bool) (old new : List Port)
    → ((c : ℕ) → g c ≡ f c) → Claims channels role p f old new → Claims channels role p g old new
claims_same channels role p f g old new is a = record {
  count = a.count;
  claimed = λ c e. a.claimed c (sym (is c) ∙ e);
  kept = λ c e. a.kept c (sym (is c) ∙ e);
  free = λ c port e here. a.free c port (sym (is c) ∙ e) here;
  allowed = λ c channel e here. a.allowed c channel (sym (is c) ∙ e) here;
}
