-- What each rule of the grammar calls a beginning is one.
use Rattle.std.proofs.Common.{◌≡◌, ℕ, zero, suc, true, inl, inr, List, [], ◌∷◌, None, pos, neg_ℤ, refl, ap}
use Rattle.net_text.specs.Names.{NameTree}
use Rattle.net_text.specs.Trees.{ExprTree, LiteralTree, VariableTree, MinusTree, BlockTree, NothingTree, ChannelTree}
use Rattle.net_text.specs.Trees.{ProcessDeclared}
use Rattle.net_text.specs.Tokens.{Lexeme}
use Rattle.net_text.specs.Grammar.{Whole, Begun, Rule, ◌>>◌, IsWhere, IsAtMostOne, IsWordOn, IsWord, IsSymbol, IsName}
use Rattle.net_text.specs.Grammar.{IsNumberOn, IsNumber, operator_kind, level_of, IsOperator, chain_of, IsLink}
use Rattle.net_text.specs.Grammar.{IsChain, IsExprOf, IsAtom, IsParenthesised, IsMinus, IsFactor, IsExpr, IsStop}
use Rattle.net_text.specs.Grammar.{IsElse, IsCount, IsStatements, IsBlock, IsNegative, IsInitial, IsVariable, IsLoop}
use Rattle.net_text.specs.Grammar.{IsHead}
use Rattle.net_text.specs.Grammar.{IsProcess, first_word, IsChannel, IsDeclaration, IsEdition, IsText, Begins, IsFront}
use Rattle.net_text.specs.Reading.{joined, named_tree, variable_tree, loop_text, HeadTree, head_made, process_made}
use Rattle.net_text.specs.Reading.{channel_made}
use Rattle.net_text.specs.Editions.{edition_number, has_this, Counts, Ranged, Unranged, is_count}
use Rattle.net_text.specs.declared.edition.Edition.{Edition}
use Rattle.net_text.specs.declared.edition.Edition.TheVariants.{First, Second}
use Rattle.net_text.proofs.Laws.{IsImage, seen_by}
use Rattle.net_text.proofs.Rules.{some_operator, single_whole, single_back, IsGiven, given_there, given_back, IsNamed}
use Rattle.net_text.proofs.Rules.{named_there, named_back, PutParts, put_made, stop_made, IfParts, if_parts, IsSingle}
use Rattle.net_text.proofs.Rules.{IsNested}
use Rattle.net_text.proofs.Rules.{repeat_parts}
use Rattle.net_text.proofs.Rules.{single_there, single_from, singles_of, singles_there, singles_back, singles_joined}
use Rattle.net_text.proofs.Rules.{loop_there, loop_back, channel_parts, declaration_there, declaration_back}
use Rattle.net_text.proofs.Rules.{text_goes_on}
use Rattle.net_text.proofs.Beginnings.{Grows, one_grows, pair_grows, either_grows, nothing_grows, as_grows}
use Rattle.net_text.proofs.Beginnings.{awaited_grows, each_grows}
use Rattle.net_text.specs.declared.parser.Level.{Level}
use Rattle.net_text.specs.declared.parser.Level.TheVariants.{Product, Sum, Comparison}
use Rattle.net_text.specs.declared.token.Keyword.{Keyword}
use Rattle.net_text.specs.declared.token.Keyword.TheVariants as keyword
use Rattle.net_text.specs.declared.token.Symbol.{Symbol}
use Rattle.net_text.specs.declared.token.Symbol.TheVariants as symbol
use Rattle.net_text.specs.declared.token.TokenKind.{TokenKind}
use Rattle.net_text.specs.declared.token.TokenKind.TheVariants as kind
use Rattle.net_text.specs.declared.tree.Role.{Role}
use Rattle.net_text.specs.declared.tree.Role.TheVariants.{Input, Inner, Output}
use Rattle.net_text.specs.declared.tree.ChannelText.{ChannelText}
use Rattle.net_text.specs.declared.tree.NodeText.{NodeText}

-- ---- tokens

abbrev token : TokenKind → Lexeme
token k = record { kind = k; text = []; start = 0; line = 1 }

word_on_grows : (w : Keyword) → Grows (λ line. IsWordOn w line) (λ line. IsWordOn w line)
word_on_grows w = one_grows (λ line t. (t.kind ≡ kind.Word w) × (line ≡ t.line)) 1 (token (kind.Word w)) (refl, refl)

word_grows : (w : Keyword) → Grows (λ (u : Unit {0}). IsWord w) (λ (u : Unit {0}). IsWord w)
word_grows w = one_grows (λ (u : Unit {0}) t. t.kind ≡ kind.Word w) tt (token (kind.Word w)) refl

symbol_grows : (s : Symbol) → Grows (λ (u : Unit {0}). IsSymbol s) (λ (u : Unit {0}). IsSymbol s)
symbol_grows s = one_grows (λ (u : Unit {0}) t. t.kind ≡ kind.Symbol s) tt (token (kind.Symbol s)) refl

name_grows : Grows (λ name. IsName name) (λ name. IsName name)
name_grows =
    one_grows (λ (name : NameTree) t. (t.kind ≡ kind.Name) × (name ≡ record { text = t.text; line = t.line }))
    (record { text = []; line = 1 }) (token kind.Name) (refl, refl)

number_on_grows : Grows (λ (n : NodeText). IsNumberOn n.number n.line) (λ (n : NodeText). IsNumberOn n.number n.line)
number_on_grows =
    one_grows (λ (n : NodeText) t. (t.kind ≡ kind.Number n.number) × (n.line ≡ t.line))
    (record { number = 1; line = 1 }) (token (kind.Number 1)) (refl, refl)

number_grows : Grows (λ n. IsNumber n) (λ n. IsNumber n)
number_grows = one_grows (λ n t. t.kind ≡ kind.Number n) 1 (token (kind.Number 1)) refl

level_kept : (level : Level) → level_of (some_operator level) ≡ level
level_kept Product = refl
level_kept Sum = refl
level_kept Comparison = refl

some_known : (edition : Edition) (level : Level) → has_this (some_operator level) edition ≡ true
some_known edition Product = refl
some_known edition Sum = refl
some_known edition Comparison = refl

operator_grows : (edition : Edition) (level : Level)
    → Grows (λ o. IsOperator edition level o) (λ o. IsOperator edition level o)
operator_grows edition level =
    one_grows (λ o t. (t.kind ≡ operator_kind o) × (level_of o ≡ level) × (has_this o edition ≡ true))
    (some_operator level) (token (operator_kind (some_operator level)))
    (refl, level_kept level, some_known edition level)

image_grows : {A B : Type 0} {P P' : A → Rule} (view : A → B) → Grows P P' → Grows (IsImage view P) (IsImage view P')
image_grows {A} {B} {P} view h =
    as_grows h
    (record {
      whole = λ x l is. (x, refl, is);
      begun = λ x l is. (view x, (x, refl, is));
      back = λ z l is. is;
      back_begun = λ z l is. (is.0, is.2);
    })
    (λ x l is. (x, refl, is))

-- ---- expressions

link_grows : {P P' : ExprTree → Rule} (edition : Edition) (level : Level) → Grows P P'
    → Grows (λ link. IsLink edition level P link) (λ link. IsLink edition level P' link)
link_grows edition level h =
    as_grows (pair_grows (operator_grows edition level) h)
    (seen_by (λ x. record { operator = x.0; value = x.1 }) (λ z. (z.operator, z.value)) (λ x extent l is. is)
    (λ z extent l is. is) (λ z. refl)) (λ x l is. is)

chain_grows : {P P' : ExprTree → Rule} (edition : Edition) (level : Level) → Grows P P'
    → Grows (λ e. IsChain edition level P e) (λ e. IsChain edition level P' e)
chain_grows edition level h =
    as_grows (pair_grows h (each_grows (link_grows edition level h)))
    (record {
      whole = λ x l is. (x.0, x.1, refl, is);
      begun = λ x l is. (chain_of x.0 x.1, (x.0, x.1, refl, is));
      back = λ z l is. ((is.0, is.1), is.2, is.3);
      back_begun = λ z l is. ((is.0, is.1), is.3);
    })
    (λ x l is. (x.0, x.1, refl, is))

at_most_one_grows : {A : Type 0} {P P' : A → Rule} → Grows P P'
    → Grows (λ xs. IsAtMostOne P xs) (λ xs. IsAtMostOne P' xs)
at_most_one_grows {A} {P} {P'} h =
    as_grows (either_grows (image_grows (λ x. x ∷ []) h) (nothing_grows []))
    (seen_by (λ xs. xs) (λ xs. xs) (single_whole P) (single_back P) (λ xs. refl))
    (λ x l is. single_whole P' x Whole l is)

expr_of_grows : {P P' : ExprTree → Rule} (edition : Edition) → Grows P P'
    → Grows (λ e. IsExprOf edition P e) (λ e. IsExprOf edition P' e)
expr_of_grows edition h =
    let sums = chain_grows edition Sum (chain_grows edition Product h) in
    as_grows (pair_grows sums (at_most_one_grows (link_grows edition Comparison sums)))
    (record {
      whole = λ x l is. (x.0, x.1, refl, is);
      begun = λ x l is. (chain_of x.0 x.1, (x.0, x.1, refl, is));
      back = λ z l is. ((is.0, is.1), is.2, is.3);
      back_begun = λ z l is. ((is.0, is.1), is.3);
    })
    (λ x l is. (x.0, x.1, refl, is))

atom_grows : Grows (λ e. IsAtom e) (λ e. IsAtom e)
atom_grows =
    either_grows (image_grows (λ n. LiteralTree (pos n)) number_grows)
    (image_grows (λ name. VariableTree name) name_grows)

parenthesised_grows : {P P' : ExprTree → Rule} (edition : Edition) → Grows P P'
    → Grows (λ e. IsParenthesised edition P e) (λ e. IsParenthesised edition P' e)
parenthesised_grows edition h =
    as_grows
    (pair_grows (symbol_grows symbol.LeftParenthesis)
    (pair_grows (expr_of_grows edition h) (symbol_grows symbol.RightParenthesis)))
    (seen_by (λ x. x.1.0) (λ z. (tt, (z, tt))) (λ x extent l is. is) (λ z extent l is. is) (λ z. refl)) (λ x l is. is)

minus_grows : {P P' : ExprTree → Rule} → Grows P P' → Grows (λ e. IsMinus P e) (λ e. IsMinus P' e)
minus_grows h =
    as_grows (pair_grows (symbol_grows symbol.Minus) h)
    (record {
      whole = λ x l is. (x.1, refl, is);
      begun = λ x l is. (MinusTree x.1, (x.1, refl, is));
      back = λ z l is. ((tt, is.0), is.1, is.2);
      back_begun = λ z l is. ((tt, is.0), is.2);
    })
    (λ x l is. (x.1, refl, is))

factor_grows : (edition : Edition) (left : ℕ)
    → Grows (λ e. IsFactor edition left e) (λ e. IsFactor edition (suc left) e)
unfolding IsFactor
factor_grows edition zero =
    as_grows atom_grows (seen_by (λ e. e) (λ e. e) (λ x extent l is. is) (λ z extent l is. is) (λ z. refl))
    (λ x l is. inr (inr is))
factor_grows edition (suc left) = let inner = factor_grows edition left in
    either_grows (parenthesised_grows edition inner) (either_grows (minus_grows inner) atom_grows)

expr_grows : (edition : Edition) (left : ℕ) → Grows (λ e. IsExpr edition left e) (λ e. IsExpr edition (suc left) e)
expr_grows edition left = expr_of_grows edition (factor_grows edition left)

-- ---- statements

got_grows : Grows (λ channel. IsWord keyword.Get >> IsName channel >> IsSymbol symbol.Semicolon)
    (λ channel. IsWord keyword.Get >> IsName channel >> IsSymbol symbol.Semicolon)
got_grows =
    as_grows (pair_grows (word_grows keyword.Get) (pair_grows name_grows (symbol_grows symbol.Semicolon)))
    (seen_by (λ x. x.1.0) (λ z. (tt, (z, tt))) (λ x extent l is. is) (λ z extent l is. is) (λ z. refl))
    (λ x l is. is)

assigned_grows : (edition : Edition) (left : ℕ)
    → Grows (λ e. IsExpr edition left e >> IsSymbol symbol.Semicolon)
    (λ e. IsExpr edition (suc left) e >> IsSymbol symbol.Semicolon)
assigned_grows edition left =
    as_grows (pair_grows (expr_grows edition left) (symbol_grows symbol.Semicolon))
    (seen_by (λ x. x.0) (λ z. (z, tt)) (λ x extent l is. is) (λ z extent l is. is) (λ z. refl)) (λ x l is. is)

given_grows : (edition : Edition) (left : ℕ) → Grows (λ g. IsGiven edition left g) (λ g. IsGiven edition (suc left) g)
given_grows edition left =
    as_grows (either_grows (image_grows inl got_grows) (image_grows inr (assigned_grows edition left)))
    (seen_by (λ g. g) (λ g. g) (given_there edition left) (given_back edition left) (λ g. refl))
    (λ x l is. given_there edition (suc left) x Whole l is)

named_grows : (edition : Edition) (left : ℕ) → Grows (λ z. IsNamed edition left z) (λ z. IsNamed edition (suc left) z)
named_grows edition left =
    as_grows (pair_grows name_grows (pair_grows (symbol_grows symbol.Assign) (given_grows edition left)))
    (record {
      whole = λ x l is. named_there edition left x.0 x.1.1 Whole l is;
      begun = λ x l is. (named_tree x.0 x.1.1, named_there edition left x.0 x.1.1 Begun l is);
      back = λ z l is. named_back edition left z Whole l is;
      back_begun = λ z l is. let x = named_back edition left z Begun l is in (x.0, x.2);
    })
    (λ x l is. named_there edition (suc left) x.0 x.1.1 Whole l is)

put_grows : (edition : Edition) (left : ℕ)
    → Grows (IsImage put_made (PutParts edition left)) (IsImage put_made (PutParts edition (suc left)))
put_grows edition left =
    image_grows put_made
    (pair_grows (word_grows keyword.Put)
    (pair_grows (expr_grows edition left)
    (pair_grows (word_grows keyword.To) (pair_grows name_grows (symbol_grows symbol.Semicolon)))))

stop_grows : Grows (IsImage stop_made (λ x. IsStop)) (IsImage stop_made (λ x. IsStop))
stop_grows = image_grows stop_made (pair_grows (word_grows keyword.Stop) (symbol_grows symbol.Semicolon))

else_grows : {P P' : BlockTree → Rule} → Grows P P' → Grows (λ z. IsElse z (P z)) (λ z. IsElse z (P' z))
else_grows h =
    either_grows
    (as_grows (pair_grows (word_grows keyword.Else) h)
    (seen_by (λ x. x.1) (λ z. (tt, z)) (λ x extent l is. is) (λ z extent l is. is) (λ z. refl)) (λ x l is. is))
    (nothing_grows NothingTree)

if_grows : {P P' : BlockTree → Rule} (edition : Edition) (left : ℕ) → Grows P P'
    → Grows (IsImage if_parts (IfParts edition left P)) (IsImage if_parts (IfParts edition (suc left) P'))
if_grows edition left h =
    image_grows if_parts
    (pair_grows (word_grows keyword.If) (pair_grows (expr_grows edition left) (pair_grows h (else_grows h))))

count_one : (counts : Counts) → is_count counts 1 ≡ true
count_one Ranged = refl
count_one Unranged = refl

count_grows : (counts : Counts) → Grows (λ n. IsCount counts n) (λ n. IsCount counts n)
count_grows counts =
    one_grows (λ n t. (t.kind ≡ kind.Number n) × (is_count counts n ≡ true)) 1 (token (kind.Number 1))
    (refl, count_one counts)

nested_grows : {P P' : BlockTree → Rule} (edition : Edition) (counts : Counts) (left : ℕ) → Grows P P'
    → Grows (λ z. IsNested edition counts left P z) (λ z. IsNested edition counts (suc left) P' z)
nested_grows First counts left h = if_grows First left h
nested_grows Second counts left h =
    either_grows
    (image_grows repeat_parts
    (pair_grows (word_on_grows keyword.Repeat) (pair_grows (count_grows counts) h)))
    (if_grows Second left h)

single_grows : (edition : Edition) (counts : Counts) (left : ℕ)
    → Grows (λ b. IsBlock edition counts left b) (λ b. IsBlock edition counts (suc left) b)
    → Grows (λ z. IsSingle edition counts left z) (λ z. IsSingle edition counts (suc left) z)
single_grows edition counts left h =
    as_grows
    (either_grows (named_grows edition left)
    (either_grows (put_grows edition left) (either_grows stop_grows (nested_grows edition counts left h))))
    (seen_by (λ z. z) (λ z. z) (single_there edition counts left) (single_from edition counts left) (λ z. refl))
    (λ x l is. single_there edition counts (suc left) x Whole l is)

statements_grows : (edition : Edition) (counts : Counts) (left : ℕ)
    → Grows (λ b. IsBlock edition counts left b) (λ b. IsBlock edition counts (suc left) b)
    → Grows (λ z. IsStatements edition counts left z) (λ z. IsStatements edition counts (suc left) z)
statements_grows edition counts left h =
    as_grows (each_grows (single_grows edition counts left h))
    (seen_by joined singles_of (singles_there edition counts left) (singles_back edition counts left) singles_joined)
    (λ x l is. singles_there edition counts (suc left) x Whole l is)

empty_block : (edition : Edition) (counts : Counts)
    → IsBlock edition counts (suc zero) NothingTree Whole
    (token (kind.Symbol symbol.LeftBrace) ∷ token (kind.Symbol symbol.RightBrace) ∷ [])
unfolding IsStatements
empty_block edition counts = (
  token (kind.Symbol symbol.LeftBrace) ∷ [],
  token (kind.Symbol symbol.RightBrace) ∷ [],
  refl,
  (token (kind.Symbol symbol.LeftBrace), refl, refl),
  ([], token (kind.Symbol symbol.RightBrace) ∷ [], refl, refl, (token (kind.Symbol symbol.RightBrace), refl, refl)),
)

block_grows : (edition : Edition) (counts : Counts) (left : ℕ)
    → Grows (λ b. IsBlock edition counts left b) (λ b. IsBlock edition counts (suc left) b)
block_grows edition counts zero =
    awaited_grows NothingTree (token (kind.Symbol symbol.LeftBrace) ∷ token (kind.Symbol symbol.RightBrace) ∷ [])
    (empty_block edition counts)
block_grows edition counts (suc left) =
    as_grows
    (pair_grows (symbol_grows symbol.LeftBrace)
    (pair_grows (statements_grows edition counts left (block_grows edition counts left))
    (symbol_grows symbol.RightBrace)))
    (seen_by (λ x. x.1.0) (λ z. (tt, (z, tt))) (λ x extent l is. is) (λ z extent l is. is) (λ z. refl)) (λ x l is. is)

-- ---- declarations

negative_grows : Grows (λ v. IsNegative v) (λ v. IsNegative v)
negative_grows =
    as_grows (pair_grows (symbol_grows symbol.Minus) number_grows)
    (record {
      whole = λ x l is. (x.1, refl, is);
      begun = λ x l is. (neg_ℤ (pos x.1), (x.1, refl, is));
      back = λ z l is. ((tt, is.0), is.1, is.2);
      back_begun = λ z l is. ((tt, is.0), is.2);
    })
    (λ x l is. (x.1, refl, is))

initial_grows : Grows (λ v. IsInitial v) (λ v. IsInitial v)
initial_grows =
    either_grows
    (as_grows (pair_grows (symbol_grows symbol.Assign) (either_grows negative_grows (image_grows pos number_grows)))
    (seen_by (λ x. x.1) (λ z. (tt, z)) (λ x extent l is. is) (λ z extent l is. is) (λ z. refl)) (λ x l is. is))
    (nothing_grows (pos 0))

variable_grows : Grows (λ v. IsVariable v) (λ v. IsVariable v)
variable_grows =
    as_grows
    (pair_grows (word_on_grows keyword.Var)
    (pair_grows name_grows (pair_grows initial_grows (symbol_grows symbol.Semicolon))))
    (seen_by variable_tree (λ v. (v.line, (v.name, (v.initial, tt)))) (λ x extent l is. is) (λ z extent l is. is)
    (λ z. refl)) (λ x l is. is)

loop_grows : (edition : Edition) (counts : Counts) (left : ℕ)
    → Grows (λ o. IsLoop edition counts left o) (λ o. IsLoop edition counts (suc left) o)
loop_grows edition counts left =
    as_grows
    (either_grows (image_grows loop_text (pair_grows (word_on_grows keyword.Loop) (block_grows edition counts left)))
    (nothing_grows None))
    (seen_by (λ o. o) (λ o. o) (loop_there edition counts left) (loop_back edition counts left) (λ o. refl))
    (λ x l is. loop_there edition counts (suc left) x Whole l is)

head_grows : Grows (λ (h : HeadTree). IsHead h.line h.name h.node) (λ (h : HeadTree). IsHead h.line h.name h.node)
head_grows =
    as_grows
    (pair_grows (word_on_grows keyword.Process)
    (pair_grows name_grows
    (pair_grows (word_grows keyword.On) (pair_grows number_on_grows (symbol_grows symbol.LeftBrace)))))
    (seen_by head_made (λ h. (h.line, (h.name, (tt, (h.node, tt))))) (λ x extent l is. is) (λ z extent l is. is)
    (λ z. refl)) (λ x l is. is)

process_grows : (edition : Edition) (counts : Counts) (left : ℕ)
    → Grows (λ p. IsProcess edition counts left p) (λ p. IsProcess edition counts (suc left) p)
process_grows edition counts left =
    as_grows
    (pair_grows head_grows
    (pair_grows (each_grows variable_grows)
    (pair_grows (statements_grows edition counts left (block_grows edition counts left))
    (pair_grows (loop_grows edition counts left) (symbol_grows symbol.RightBrace)))))
    (seen_by process_made
    (λ p. (record { line = p.line; name = p.name; node = p.node }, (p.variables, (p.prelude, (p.repeated, tt)))))
    (λ x extent l is. is) (λ z extent l is. is) (λ z. refl)) (λ x l is. is)

channel_grows : (role : Role)
    → Grows (λ (c : ChannelText). IsWhere (c.role ≡ role) (IsChannel c))
    (λ (c : ChannelText). IsWhere (c.role ≡ role) (IsChannel c))
channel_grows role =
    as_grows (pair_grows (word_on_grows (first_word role)) (pair_grows name_grows (symbol_grows symbol.Semicolon)))
    (record {
      whole = λ x l is. (refl, is);
      begun = λ x l is. (channel_made role x, (refl, is));
      back = λ z l
          is. (
            (z.line, (z.name, tt)),
            ap (λ (r : Role). channel_made r (z.line, (z.name, tt))) is.0,
            channel_parts
                role z Whole l is,
          );
      back_begun = λ z l is. ((z.line, (z.name, tt)), channel_parts role z Begun l is);
    })
    (λ x l is. (refl, is))

declaration_grows : (edition : Edition) (counts : Counts) (left : ℕ)
    → Grows (λ d. IsDeclaration edition counts left d) (λ d. IsDeclaration edition counts (suc left) d)
declaration_grows edition counts left =
    as_grows
    (either_grows (image_grows ProcessDeclared (process_grows edition counts left))
    (either_grows (image_grows ChannelTree (channel_grows Input))
    (either_grows (image_grows ChannelTree (channel_grows Output))
    (image_grows ChannelTree (channel_grows Inner)))))
    (seen_by (λ d. d) (λ d. d) (declaration_there edition counts left) (declaration_back edition counts left)
    (λ d. refl))
    (λ x l is. declaration_there edition counts (suc left) x Whole l is)

edition_grows : (edition : Edition) (counts : Counts) (left : ℕ)
    → Grows (λ ds. IsEdition counts left ds edition) (λ ds. IsEdition counts (suc left) ds edition)
edition_grows edition counts left =
    as_grows
    (pair_grows
    (one_grows (λ (u : Unit {0}) t. t.kind ≡ kind.Number (edition_number edition)) tt
    (token (kind.Number (edition_number edition))) refl)
    (pair_grows (symbol_grows symbol.Semicolon) (each_grows (declaration_grows edition counts left))))
    (seen_by (λ x. x.1.1) (λ z. (tt, (tt, z))) (λ x extent l is. is) (λ z extent l is. is) (λ z. refl)) (λ x l is. is)

text_grows : (counts : Counts) (left : ℕ) → Grows (λ ds. IsText counts left ds) (λ ds. IsText counts (suc left) ds)
unfolding IsText
text_grows counts left =
    as_grows
    (pair_grows (word_grows keyword.Kahn)
    (either_grows (edition_grows First counts left) (edition_grows Second counts left)))
    (seen_by (λ x. x.1) (λ z. (tt, z)) (λ x extent l is. is) (λ z extent l is. is) (λ z. refl)) (λ x l is. is)

-- what begins a text is the front of one where one more may be open
pub begins_front : (counts : Counts) (left : ℕ) (ts : List Lexeme) → Begins counts left ts
    → IsFront counts (suc left) ts
begins_front counts left ts begins =
    let c = (text_grows counts left).completes begins.declarations ts begins.begun in
    record { declarations = c.0; more = c.1; whole = c.2 }

-- the front of a text begins one
pub front_begins : (counts : Counts) (left : ℕ) (ts : List Lexeme) → IsFront counts left ts → Begins counts left ts
front_begins counts left ts front =
    elim ((text_grows counts left).prefix front.declarations ts front.more front.whole) as (λ _. Begins counts left ts) [
      | inl begun ↦ record { declarations = begun.0; begun = begun.1 }
      | inr whole ↦
          (let longer = text_goes_on counts left front.declarations ts whole.0 in
          record { declarations = longer.0; begun = longer.1 })
    ]
