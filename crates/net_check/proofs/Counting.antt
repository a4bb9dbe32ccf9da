-- Units counted, and passing, statement by statement.
use Rattle.std.proofs.Common.{◌≡◌, ◌∙◌, sym, ap, refl, ℕ, ◌+◌, ◌<◌, List, drop, get_or, length, Bool, true, false, ◌||◌}
use Rattle.std.proofs.Common.{nat_lt, cond, ◌-◌, ◌*◌, ◌&&◌, Option, Some, None, MatchOption, arith}
use Rattle.std.proofs.lemmas.List.{at_drop_more}
use Rattle.net_text.specs.Trees.{BlockTree, NothingTree, block_tree, row_block, then_tree}
use Rattle.net_text.specs.declared.tree.StatementText.{StatementText, Get, Assign, Put, Stop, If', Repeat'}
use Rattle.net_check.specs.Texts.{block_units_text, is_passing_text, or_line, past_line}
use Rattle.kahn_net.specs.Common.{is_repeat_within}

-- the statement at hand, and those after it
tree_at : (ts : List StatementText) (i : ℕ) (t : StatementText) → i < length ts → t ≡ get_or ts i t
    → block_tree (drop i ts) ≡ then_tree t (block_tree (drop (i + 1) ts))
tree_at ts i t lt e =
    at_drop_more block_tree ts i t lt ∙ ap (λ (x : StatementText). then_tree x (block_tree (drop (i + 1) ts))) (sym e)

then_units : (t : StatementText) (rest : BlockTree)
    → block_units_text (then_tree t rest) ≡ block_units_text (then_tree t NothingTree) + block_units_text rest
then_units (Get v c) rest = omega arith
then_units (Assign v e) rest = omega arith
then_units (Put e c) rest = omega arith
then_units Stop rest = omega arith
then_units (If' test p first q second) rest = omega arith
then_units (Repeat' times line p body) rest = omega arith

-- each statement is a unit at least
pub then_costs : (t : StatementText) → 0 < block_units_text (then_tree t NothingTree)
then_costs (Get v c) = omega arith
then_costs (Assign v e) = omega arith
then_costs (Put e c) = omega arith
then_costs Stop = omega arith
then_costs (If' test p first q second) = omega arith
then_costs (Repeat' times line p body) = omega arith

pub units_at : (ts : List StatementText) (i : ℕ) (t : StatementText) → i < length ts → t ≡ get_or ts i t
    → block_units_text (block_tree (drop i ts))
    ≡ block_units_text (then_tree t NothingTree) + block_units_text (block_tree (drop (i + 1) ts))
units_at ts i t lt e = ap block_units_text (tree_at ts i t lt e) ∙ then_units t (block_tree (drop (i + 1) ts))

-- too many before the last are too many
pub none_left : (r : Option ℕ) (left whole : ℕ) → r ≡ None → left < whole
    → MatchOption r (left < whole) (λ (x : ℕ). x + whole ≡ left)
none_left None left whole e h = h
none_left (Some x) left whole e h = absurd (cc)

-- counted on from what is left after the units before
pub counted_on : (r : Option ℕ) (left rest before after whole : ℕ) → rest + before ≡ left → whole ≡ before + after
    → MatchOption r (rest < after) (λ (x : ℕ). x + after ≡ rest)
    → MatchOption r (left < whole) (λ (x : ℕ). x + whole ≡ left)
counted_on None left rest before after whole h k m = omega arith
counted_on (Some x) left rest before after whole h k m = omega arith

or_twice : (a b : Bool) → a || b ≡ (a || false) || b
or_twice true b = refl
or_twice false b = refl

then_passes : (t : StatementText) (rest : BlockTree)
    → is_passing_text (then_tree t rest) ≡ is_passing_text (then_tree t NothingTree) || is_passing_text rest
then_passes (Get v c) rest = refl
then_passes (Assign v e) rest = refl
then_passes (Put e c) rest = refl
then_passes Stop rest = refl
then_passes (If' test p first q second) rest =
    or_twice (is_passing_text (row_block first) && is_passing_text (row_block second)) (is_passing_text rest)
then_passes (Repeat' times line p body) rest =
    or_twice (nat_lt 0 times && is_passing_text (row_block body)) (is_passing_text rest)

pub passes_at : (ts : List StatementText) (i : ℕ) (t : StatementText) → i < length ts → t ≡ get_or ts i t
    → is_passing_text (block_tree (drop i ts))
    ≡ is_passing_text (then_tree t NothingTree) || is_passing_text (block_tree (drop (i + 1) ts))
passes_at ts i t lt e = ap is_passing_text (tree_at ts i t lt e) ∙ then_passes t (block_tree (drop (i + 1) ts))

pub passes_here : (ts : List StatementText) (i : ℕ) (t : StatementText) → i < length ts → t ≡ get_or ts i t
    → is_passing_text (block_tree (drop i ts)) ≡ is_passing_text (block_tree ts)
    → true ≡ is_passing_text (then_tree t NothingTree) → true ≡ is_passing_text (block_tree ts)
passes_here ts i t lt e same here =
    ap (λ (b : Bool). b || is_passing_text (block_tree (drop (i + 1) ts))) here ∙ sym (passes_at ts i t lt e) ∙ same

pub passes_later : (ts : List StatementText) (i : ℕ) (t : StatementText) → i < length ts → t ≡ get_or ts i t
    → is_passing_text (block_tree (drop i ts)) ≡ is_passing_text (block_tree ts)
    → false ≡ is_passing_text (then_tree t NothingTree)
    → is_passing_text (block_tree (drop (i + 1) ts)) ≡ is_passing_text (block_tree ts)
passes_later ts i t lt e same here =
    ap (λ (b : Bool). b || is_passing_text (block_tree (drop (i + 1) ts))) here ∙ sym (passes_at ts i t lt e) ∙ same

-- lines of repetitions past their limits, statement by statement
or_line_none : (a b : Option ℕ) → or_line a b ≡ or_line (or_line a None) b
or_line_none None b = refl
or_line_none (Some line) b = refl

or_line_three : (a b c : Option ℕ) → or_line a (or_line b c) ≡ or_line (or_line a (or_line b None)) c
or_line_three None None c = refl
or_line_three None (Some line) c = refl
or_line_three (Some line) b c = refl

cond_line : (test : Bool) (a c : Option ℕ) (line : ℕ)
    → cond test (or_line a c) (Some line) ≡ or_line (cond test (or_line a None) (Some line)) c
cond_line true a c line = or_line_none a c
cond_line false a c line = refl

then_past : (open_yet round : ℕ) (t : StatementText) (rest : BlockTree)
    → past_line open_yet round (then_tree t rest)
    ≡ or_line (past_line open_yet round (then_tree t NothingTree)) (past_line open_yet round rest)
then_past o m (Get v c) rest = refl
then_past o m (Assign v e) rest = refl
then_past o m (Put e c) rest = refl
then_past o m Stop rest = refl
then_past o m (If' test p first q second) rest =
    or_line_three (past_line o m (row_block first)) (past_line o m (row_block second)) (past_line o m rest)
then_past o m (Repeat' times line p body) rest =
    cond_line (is_repeat_within o m times) (past_line (o - 1) (m * times) (row_block body)) (past_line o m rest) line

pub past_at : (open_yet round : ℕ) (ts : List StatementText) (i : ℕ) (t : StatementText) → i < length ts
    → t ≡ get_or ts i t
    → past_line open_yet round (block_tree (drop i ts))
    ≡ or_line (past_line open_yet round (then_tree t NothingTree))
    (past_line open_yet round (block_tree (drop (i + 1) ts)))
past_at o m ts i t lt e = ap (past_line o m) (tree_at ts i t lt e) ∙ then_past o m t (block_tree (drop (i + 1) ts))

pub past_here : (open_yet round : ℕ) (ts : List StatementText) (i : ℕ) (t : StatementText) (line : ℕ) → i < length ts
    → t ≡ get_or ts i t
    → past_line open_yet round (block_tree (drop i ts)) ≡ past_line open_yet round (block_tree ts)
    → Some line ≡ past_line open_yet round (then_tree t NothingTree)
    → Some line ≡ past_line open_yet round (block_tree ts)
past_here o m ts i t line lt e same here =
    ap (λ (x : Option ℕ). or_line x (past_line o m (block_tree (drop (i + 1) ts)))) here ∙ sym (past_at o m ts i t lt e)
    ∙ same

pub past_later : (open_yet round : ℕ) (ts : List StatementText) (i : ℕ) (t : StatementText) → i < length ts
    → t ≡ get_or ts i t
    → past_line open_yet round (block_tree (drop i ts)) ≡ past_line open_yet round (block_tree ts)
    → None ≡ past_line open_yet round (then_tree t NothingTree)
    → past_line open_yet round (block_tree (drop (i + 1) ts)) ≡ past_line open_yet round (block_tree ts)
past_later o m ts i t lt e same here =
    ap (λ (x : Option ℕ). or_line x (past_line o m (block_tree (drop (i + 1) ts)))) here ∙ sym (past_at o m ts i t lt e)
    ∙ same
