-- The parser's loops: a turn leaves what is read as it was, and so do their ends.
use Rattle.std.proofs.Common.{◌≡◌, ℕ, Bool, true, false, List, [], ◌∷◌, ◌++◌, length, map, Ok, Err, refl, sym, ap, ◌∙◌}
use Rattle.std.proofs.Common.{append_assoc, ◌<◌, arith, Vec, Global}
use Rattle.std.proofs.lemmas.List.{map-append}
use Rattle.net_text.specs.Trees.{ExprTree, ChainTree, links_tree, BlockTree, NothingTree, GetTree, AssignTree, PutTree}
use Rattle.net_text.specs.Trees.{StopTree, IfTree, RepeatTree, link_tree, then_tree, row_block, block_tree, expr_tree}
use Rattle.net_text.specs.Trees.{declaration_tree}
use Rattle.net_text.specs.Tokens.{Lexeme}
use Rattle.net_text.specs.Grammar.{chain_of}
use Rattle.net_text.specs.Reading.{Read, Reader, begins, has_word, has_operator, many, link_at, links_at, statement_at}
use Rattle.net_text.specs.Reading.{starts_statement, append_block, joined, statements_at, variable_at, variables_at}
use Rattle.net_text.specs.Reading.{starts_declaration, declaration_at, declarations_at}
use Rattle.net_text.proofs.Laws.{IsShortening, with_first, shortens}
use Rattle.net_text.proofs.Rules.{link_at_reads, statement_reads, variable_reads, declaration_reads}
use Rattle.net_text.proofs.Many.{after_items, after_block, many_step, many_stop}
use Rattle.net_text.specs.Editions.{Counts}
use Rattle.net_text.specs.declared.edition.Edition.{Edition}
use Rattle.net_text.specs.declared.parser.Level.{Level}
use Rattle.net_text.specs.declared.parser.Level.TheVariants.{Product, Sum, Comparison}
use Rattle.net_text.specs.declared.token.TokenKind.{TokenKind}
use Rattle.net_text.specs.declared.token.Keyword.TheVariants as keyword
use Rattle.net_text.specs.declared.tree.StatementText.{StatementText, Get, Assign, Put, Stop, If', Repeat'}
use Rattle.net_text.specs.declared.tree.StatementText.TheViews as statement
use Rattle.net_text.specs.declared.tree.ExprText.{ExprText}
use Rattle.net_text.specs.TreeLaws.{if_tree, repeat_tree}
use Rattle.net_text.specs.declared.tree.VariableText.{VariableText}
use Rattle.net_text.specs.declared.tree.LinkText.{LinkText}
use Rattle.net_text.specs.declared.tree.Declaration.{Declaration}
use Rattle.net_text.specs.Results.{◌>>=◌}

-- ---- chains

pub chain_made : (first : ExprTree) (ls : List LinkText) → 0 < length ls
    → ChainTree first (links_tree (map link_tree ls)) ≡ chain_of first (map link_tree ls)
chain_made first [] h = absurd (omega arith)
chain_made first (l ∷ ls) h = refl

-- ---- lists of items

items_regroup : {A : Type 0} (front : List A) (x : A) (read : Read (List A))
    → after_items front (with_first x read) ≡ after_items (front ++ x ∷ []) read
items_regroup front x (Ok y) = ap (λ (xs : List _). Ok (xs, y.1)) (simp append_assoc)
items_regroup front x (Err s) = refl

-- one more item that code has so
items_more : {X A : Type 0} (tree : X → A) (starts : TokenKind → Bool) (item : Reader A) → IsShortening item
    → (xs : List X) (x : X) (ts rest : List Lexeme) → begins starts ts ≡ true → item ts ≡ Ok (tree x, rest)
    → after_items (map tree xs) (many starts item (length ts) ts)
    ≡ after_items (map tree (xs ++ x ∷ [])) (many starts item (length rest) rest)
items_more {X} {A} tree starts item shorter xs x ts rest b h =
    ap (after_items (map tree xs)) (many_step starts item shorter ts (tree x, rest) b h)
    ∙ items_regroup (map tree xs) (tree x) (many starts item (length rest) rest)
    ∙ ap (λ (front : List A). after_items front (many starts item (length rest) rest))
    (sym (map-append tree xs (x ∷ [])))

pub variable_shortens : IsShortening variable_at
variable_shortens = shortens variable_reads

pub variables_more : (front : List VariableText) (v : VariableText) (ts rest : List Lexeme)
    → begins (has_word keyword.Var) ts ≡ true → variable_at ts ≡ Ok (v, rest)
    → after_items front (variables_at ts) ≡ after_items (front ++ v ∷ []) (variables_at rest)
unfolding variables_at
variables_more front v ts rest b h =
    ap (after_items front) (many_step (has_word keyword.Var) variable_at variable_shortens ts (v, rest) b h)
    ∙ items_regroup front v (many (has_word keyword.Var) variable_at (length rest) rest)

pub link_shortens : (edition : Edition) (level : Level) (left : ℕ) → IsShortening (link_at edition level left)
link_shortens edition Product left = shortens (link_at_reads edition Product left)
link_shortens edition Sum left = shortens (link_at_reads edition Sum left)
link_shortens edition Comparison left = shortens (link_at_reads edition Comparison left)

pub links_more : (edition : Edition) (level : Level) (left : ℕ) (ls : List LinkText) (l : LinkText)
    (ts rest : List Lexeme)
    → begins (has_operator edition level) ts ≡ true → link_at edition level left ts ≡ Ok (link_tree l, rest)
    → after_items (map link_tree ls) (links_at edition level left ts)
    ≡ after_items (map link_tree (ls ++ l ∷ [])) (links_at edition level left rest)
unfolding links_at
links_more edition level left ls l ts rest b h =
    items_more link_tree (has_operator edition level) (link_at edition level left) (link_shortens edition level left)
    ls l ts rest b h

pub declaration_shortens : (edition : Edition) (counts : Counts) (left : ℕ)
    → IsShortening (declaration_at edition counts left)
declaration_shortens edition counts left = shortens (declaration_reads edition counts left)

pub declarations_more : (edition : Edition) (counts : Counts) (left : ℕ) (ds : List Declaration) (d : Declaration)
    (ts rest : List Lexeme)
    → begins starts_declaration ts ≡ true → declaration_at edition counts left ts ≡ Ok (declaration_tree d, rest)
    → after_items (map declaration_tree ds) (declarations_at edition counts left ts)
    ≡ after_items (map declaration_tree (ds ++ d ∷ [])) (declarations_at edition counts left rest)
unfolding declarations_at
declarations_more edition counts left ds d ts rest b h =
    items_more declaration_tree starts_declaration (declaration_at edition counts left)
    (declaration_shortens edition counts left) ds d ts rest b h

-- ---- statements

append_block_assoc : (a b c : BlockTree) → append_block (append_block a b) c ≡ append_block a (append_block b c)
append_block_assoc NothingTree b c = refl
append_block_assoc (GetTree variable channel rest) b c = ap (GetTree variable channel) (append_block_assoc rest b c)
append_block_assoc (AssignTree variable value rest) b c = ap (AssignTree variable value) (append_block_assoc rest b c)
append_block_assoc (PutTree value channel rest) b c = ap (PutTree value channel) (append_block_assoc rest b c)
append_block_assoc (StopTree rest) b c = ap StopTree (append_block_assoc rest b c)
append_block_assoc (IfTree test first second rest) b c = ap (IfTree test first second) (append_block_assoc rest b c)
append_block_assoc (RepeatTree times line body rest) b c =
    ap (RepeatTree times line body) (append_block_assoc rest b c)

pub append_block-nothing : (a : BlockTree) → append_block a NothingTree ≡ a
append_block-nothing NothingTree = refl
append_block-nothing (GetTree variable channel rest) = ap (GetTree variable channel) (append_block-nothing rest)
append_block-nothing (AssignTree variable value rest) = ap (AssignTree variable value) (append_block-nothing rest)
append_block-nothing (PutTree value channel rest) = ap (PutTree value channel) (append_block-nothing rest)
append_block-nothing (StopTree rest) = ap StopTree (append_block-nothing rest)
append_block-nothing (IfTree test first second rest) = ap (IfTree test first second) (append_block-nothing rest)
append_block-nothing (RepeatTree times line body rest) = ap (RepeatTree times line body) (append_block-nothing rest)

block_push : (ss : List StatementText) (s : StatementText)
    → block_tree (ss ++ s ∷ []) ≡ append_block (block_tree ss) (then_tree s NothingTree)
block_push [] s = refl
block_push (Get variable channel ∷ ss) s = ap (GetTree variable channel) (block_push ss s)
block_push (Assign variable value ∷ ss) s = ap (AssignTree variable (expr_tree value)) (block_push ss s)
block_push (Put value channel ∷ ss) s = ap (PutTree (expr_tree value) channel) (block_push ss s)
block_push (Stop ∷ ss) s = ap StopTree (block_push ss s)
block_push (If' test p first q second ∷ ss) s =
    ap (IfTree (expr_tree test) (row_block first) (row_block second)) (block_push ss s)
block_push (Repeat' times line p body ∷ ss) s = ap (RepeatTree times line (row_block body)) (block_push ss s)

-- a block of single statements
abbrev as_block : Read (List BlockTree) → Read BlockTree
as_block read = read >>= λ each. Ok (joined each.0, each.1)

block_regroup : (front b : BlockTree) (read : Read (List BlockTree))
    → after_block front (as_block (with_first b read)) ≡ after_block (append_block front b) (as_block read)
block_regroup front b (Ok x) =
    ap (λ (block : BlockTree). let r : Read BlockTree = Ok (block, x.1) in r)
    (sym (append_block_assoc front b (joined x.0)))
block_regroup front b (Err s) = refl

pub statement_shortens : (edition : Edition) (counts : Counts) (left : ℕ)
    → IsShortening (statement_at edition counts left)
statement_shortens edition counts left = shortens (statement_reads edition counts left)

pub statements_more : (edition : Edition) (counts : Counts) (left : ℕ) (ss : List StatementText) (s : StatementText)
    (ts rest : List Lexeme)
    → begins (starts_statement edition) ts ≡ true
    → statement_at edition counts left ts ≡ Ok (then_tree s NothingTree, rest)
    → after_block (block_tree ss) (statements_at edition counts left ts)
    ≡ after_block (block_tree (ss ++ s ∷ [])) (statements_at edition counts left rest)
unfolding statements_at
statements_more edition counts left ss s ts rest b h =
    ap (λ (r : Read (List BlockTree)). after_block (block_tree ss) (as_block r))
    (many_step (starts_statement edition) (statement_at edition counts left) (statement_shortens edition counts left)
    ts (then_tree s NothingTree, rest) b
    h)
    ∙ block_regroup (block_tree ss) (then_tree s NothingTree)
    (many (starts_statement edition) (statement_at edition counts left) (length rest) rest)
    ∙ ap (λ (x : BlockTree). after_block x
    (as_block (many (starts_statement edition) (statement_at edition counts left) (length rest) rest)))
    (sym (block_push ss s))

pub statements_end : (edition : Edition) (counts : Counts) (left : ℕ) (front : BlockTree) (ts : List Lexeme)
    → begins (starts_statement edition) ts ≡ false
    → after_block front (statements_at edition counts left ts) ≡ Ok (front, ts)
unfolding statements_at
statements_end edition counts left front ts b =
    ap (λ (r : Read (List BlockTree)). after_block front (as_block r))
    (many_stop (starts_statement edition) (statement_at edition counts left) ts b)
    ∙ ap (λ (x : BlockTree). Ok (x, ts)) (append_block-nothing front)

-- an if, as code makes it
pub if_made : (read : Read BlockTree) (test : ExprText) (first second : Vec StatementText Global) (rest : List Lexeme)
    → read ≡ Ok (IfTree (expr_tree test) (block_tree first.items) (block_tree second.items) NothingTree, rest)
    → read ≡ Ok (then_tree (statement.If test first second) NothingTree, rest)
if_made read test first second rest e =
    e ∙ ap (λ (b : BlockTree). let o : Read BlockTree = Ok (b, rest) in o) (sym (if_tree test first second NothingTree))

-- a repetition, as code makes it
pub repeat_made : (read : Read BlockTree) (times line : ℕ) (body : Vec StatementText Global) (rest : List Lexeme)
    → read ≡ Ok (RepeatTree times line (block_tree body.items) NothingTree, rest)
    → read ≡ Ok (then_tree (statement.Repeat times line body) NothingTree, rest)
repeat_made read times line body rest e =
    e ∙ ap (λ (b : BlockTree). let o : Read BlockTree = Ok (b, rest) in o)
    (sym (repeat_tree times line body NothingTree))
