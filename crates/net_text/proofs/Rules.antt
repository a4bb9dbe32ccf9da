-- Each reader of the grammar keeps the law for its rule.
use Rattle.std.proofs.Common.{◌≡◌, ℕ, zero, suc, ◌⊎◌, inl, inr, Bool, true, false, cond, List, [], ◌∷◌, ◌++◌, Option}
use Rattle.std.proofs.Common.{Some, None, Ok, Err, pos, neg_ℤ, refl, sym, ap, subst, ◌∙◌}
use Rattle.std.specs.Prelude.{◌==◌}
use Rattle.std.proofs.lemmas.Slice.Eq.{bytes_eq-Decides}
use Rattle.std.proofs.lemmas.Bool.{eqb-true, eq-eqb}
use Rattle.net_text.specs.Names.{NameTree}
use Rattle.net_text.specs.Spellings.{keyword_spelling, symbol_spelling}
use Rattle.net_text.specs.Trees.{ExprTree, LiteralTree, VariableTree, MinusTree, LinkTree, BlockTree, NothingTree}
use Rattle.net_text.specs.Trees.{GetTree, AssignTree, PutTree, StopTree, IfTree, RepeatTree, LoopTree, DeclarationTree}
use Rattle.net_text.specs.Trees.{ChannelTree}
use Rattle.net_text.specs.Trees.{ProcessDeclared}
use Rattle.net_text.specs.Tokens.{Lexeme}
use Rattle.net_text.specs.Editions.{edition_number, has_this, Counts, Unranged}
use Rattle.net_text.specs.declared.edition.Edition.{Edition}
use Rattle.net_text.specs.declared.edition.Edition.TheVariants.{First, Second}
use Rattle.net_text.specs.Grammar.{Extent, Whole, Begun, Rule, ◌>>◌, ◌or◌, IsWhere, IsNothing, IsAwaited, IsOne, IsEach}
use Rattle.net_text.specs.Grammar.{IsAtMostOne, IsWordOn, IsWord, IsSymbol, IsName, IsNumberOn, IsNumber}
use Rattle.net_text.specs.Grammar.{operator_kind, level_of, IsOperator, chain_of, IsLink, IsChain, IsTermOf, IsSumOf}
use Rattle.net_text.specs.Grammar.{IsExprOf, IsAtom, IsParenthesised, IsMinus, IsFactor, IsExpr, IsGet, IsAssign, IsPut}
use Rattle.net_text.specs.Grammar.{IsStop, IsElse, IsIf, IsCount, IsRepeat, IsStatements, IsBlock, IsPositive}
use Rattle.net_text.specs.Grammar.{IsNegative, IsInitial}
use Rattle.net_text.specs.Grammar.{IsVariable, IsLoop, IsHead, IsProcess, first_word, IsChannel, IsDeclaration}
use Rattle.net_text.specs.Grammar.{IsEdition, IsText}
use Rattle.net_text.specs.Reading.{Read, Reader, has_word, has_symbol, is_name, operator_of, word_operator}
use Rattle.net_text.specs.Reading.{any_operator, is_level}
use Rattle.net_text.specs.Reading.{if_level, has_number, operator_in, has_operator, pair_at, as_at, either_at}
use Rattle.net_text.specs.Reading.{at_most_one_at, word_on_at}
use Rattle.net_text.specs.Reading.{word_at, symbol_at, name_at, number_in, number_at, picked, operator_at, atom_in}
use Rattle.net_text.specs.Reading.{atom_at, link_of, chain_at, expr_of, parenthesised_of, minus_of, factor_of}
use Rattle.net_text.specs.Reading.{factor_at, link_at, expr_at, got_at, assigned_at, named_tree, named_at, put_at}
use Rattle.net_text.specs.Reading.{stop_at, else_of, if_of, repeat_of, nested_of, statement_of, starts_statement}
use Rattle.net_text.specs.Reading.{append_block, joined}
use Rattle.net_text.specs.Reading.{statements_of, braced_of, block_at, statement_at, statements_at, amount_at, value_at}
use Rattle.net_text.specs.Reading.{initial_at, variable_tree, variable_at, variables_at, loop_text, loop_at, HeadTree}
use Rattle.net_text.specs.Reading.{head_made, head_at, process_made, process_at, channel_made, channel_at}
use Rattle.net_text.specs.Reading.{declaration_at, starts_declaration, declarations_at, if_edition, edition_number_at}
use Rattle.net_text.specs.Reading.{edition_at, text_at}
use Rattle.net_text.proofs.Readings.{one_keyword, one_symbol}
use Rattle.net_text.proofs.Laws.{Class, AWord, ASymbol, AName, ANumber, IsOf, Tests, Reads, never, cond_true}
use Rattle.net_text.proofs.Laws.{cond_false, one_reads, pair_starts, pair_empty, pair_continues, many_continues}
use Rattle.net_text.proofs.Laws.{either_continues, pair_reads, either_reads, nothing_reads, as_reads, IsImage}
use Rattle.net_text.proofs.Laws.{image_reads, ruled_reads, seen_by, IsOpening, unopened_reads, each_reads}
use Rattle.net_text.proofs.Laws.{counted_reads, AValue}
use Rattle.net_text.specs.declared.parser.Level.{Level}
use Rattle.net_text.specs.declared.parser.Level.TheVariants.{Product, Sum, Comparison}
use Rattle.net_text.specs.declared.parser.Stuck.TheVariants.{At, AtEnd}
use Rattle.net_text.specs.declared.token.Keyword.{Keyword}
use Rattle.net_text.specs.declared.token.Keyword.TheVariants as keyword
use Rattle.net_text.specs.declared.token.Symbol.{Symbol}
use Rattle.net_text.specs.declared.token.Symbol.TheVariants as symbol
use Rattle.net_text.specs.declared.token.TokenKind.{TokenKind}
use Rattle.net_text.specs.declared.token.TokenKind.TheVariants as kind
use Rattle.kahn_net.specs.declared.program.Operator.{Operator}
use Rattle.kahn_net.specs.declared.program.Operator.TheVariants.{Add, Subtract, Multiply, Divide, Remainder, Equal}
use Rattle.kahn_net.specs.declared.program.Operator.TheVariants.{NotEqual, Less, LessOrEqual, Greater, GreaterOrEqual}
use Rattle.net_text.specs.declared.tree.Role.{Role}
use Rattle.net_text.specs.declared.tree.Role.TheVariants.{Input, Inner, Output}
use Rattle.net_text.specs.declared.tree.ChannelText.{ChannelText}
use Rattle.net_text.specs.declared.tree.NodeText.{NodeText}
use Rattle.net_text.specs.Results.{◌>>=◌}

-- ---- tokens

has_word_is : (w : Keyword) (k : TokenKind) → has_word w k ≡ true → k ≡ kind.Word w
has_word_is w (kind.Word v) h =
    ap kind.Word (one_keyword v w ((bytes_eq-Decides (keyword_spelling v) (keyword_spelling w)).0 h))
has_word_is w (kind.Symbol s) h = absurd cc
has_word_is w (kind.Number n) h = absurd cc
has_word_is w kind.Name h = absurd cc

has_symbol_is : (s : Symbol) (k : TokenKind) → has_symbol s k ≡ true → k ≡ kind.Symbol s
has_symbol_is s (kind.Symbol t) h =
    ap kind.Symbol (one_symbol t s ((bytes_eq-Decides (symbol_spelling t) (symbol_spelling s)).0 h))
has_symbol_is s (kind.Word w) h = absurd cc
has_symbol_is s (kind.Number n) h = absurd cc
has_symbol_is s kind.Name h = absurd cc

is_name_is : (k : TokenKind) → is_name k ≡ true → k ≡ kind.Name
is_name_is kind.Name h = refl
is_name_is (kind.Word w) h = absurd cc
is_name_is (kind.Symbol s) h = absurd cc
is_name_is (kind.Number n) h = absurd cc

has_word_at : (w : Keyword) (k : TokenKind) → k ≡ kind.Word w → has_word w k ≡ true
has_word_at w k e = ap (has_word w) e ∙ (bytes_eq-Decides (keyword_spelling w) (keyword_spelling w)).1 refl

has_symbol_at : (s : Symbol) (k : TokenKind) → k ≡ kind.Symbol s → has_symbol s k ≡ true
has_symbol_at s k e = ap (has_symbol s) e ∙ (bytes_eq-Decides (symbol_spelling s) (symbol_spelling s)).1 refl

-- a token whose kind passes a test, and what it says
record IsTested {A : Type 0} (test : TokenKind → Bool) (value : Lexeme → A) (Is : A → Lexeme → Type 0)
    (starts : List Class) (read : Reader A) : Type 0 where
  pub ended : read [] ≡ Err AtEnd
  pub gives : (t : Lexeme) (ts : List Lexeme) → read (t ∷ ts) ≡ cond (test t.kind) (Ok (value t, ts)) (Err (At t.line))
  pub is : (t : Lexeme) → test t.kind ≡ true → Is (value t) t
  pub only : (x : A) (t : Lexeme) → Is x t → (test t.kind ≡ true) × (x ≡ value t)
  pub class : (x : A) (t : Lexeme) → Is x t → IsOf starts t.kind

tested_reads : {A : Type 0} {test : TokenKind → Bool} {value : Lexeme → A} {Is : A → Lexeme → Type 0}
    {starts : List Class} {read : Reader A} → A → IsTested test value Is starts read
    → Reads (λ x. IsOne (Is x)) starts false never read read
tested_reads {A} {test} {value} {Is} {starts} {read} some h =
    one_reads Is starts read some h.ended
    (λ x t ts is.
    let found = h.only x t is in
    h.gives t ts ∙ cond_true (test t.kind) (Ok (value t, ts)) (Err (At t.line)) found.0
    ∙ ap (λ (y : A). let o : Read A = Ok (y, ts) in o) (sym found.1))
    (λ t. at_test t (test t.kind) refl)
    h.class
  where
    at_test : (t : Lexeme) (b : Bool) → test t.kind ≡ b
        → ((x : A) × Is x t) ⊎ ((ts : List Lexeme) → read (t ∷ ts) ≡ Err (At t.line))
    at_test t true e = inl (value t, h.is t e)
    at_test t false e = inr (λ ts. h.gives t ts ∙ cond_false (test t.kind) (Ok (value t, ts)) (Err (At t.line)) e)

pub word_on_reads : (w : Keyword)
    → Reads (λ line. IsWordOn w line) (AWord w ∷ []) false never (word_on_at w) (word_on_at w)
unfolding word_on_at
word_on_reads w =
    tested_reads {test = has_word w} {value = λ t. t.line} 1
    (record {
      ended = refl;
      gives = λ t ts. refl;
      is = λ t h. (has_word_is w t.kind h, refl);
      only = λ x t is. (has_word_at w t.kind is.0, is.1);
      class = λ x t is. inl is.0;
    })

pub word_reads : (w : Keyword) → Reads (λ (u : Unit {0}). IsWord w) (AWord w ∷ []) false never (word_at w) (word_at w)
unfolding word_at
word_reads w =
    tested_reads {test = has_word w} {value = λ t. tt} tt
    (record {
      ended = refl;
      gives = λ t ts. refl;
      is = λ t h. has_word_is w t.kind h;
      only = λ x t is. (has_word_at w t.kind is, refl);
      class = λ x t is. inl is;
    })

pub symbol_reads : (s : Symbol)
    → Reads (λ (u : Unit {0}). IsSymbol s) (ASymbol s ∷ []) false never (symbol_at s) (symbol_at s)
unfolding symbol_at
symbol_reads s =
    tested_reads {test = has_symbol s} {value = λ t. tt} tt
    (record {
      ended = refl;
      gives = λ t ts. refl;
      is = λ t h. has_symbol_is s t.kind h;
      only = λ x t is. (has_symbol_at s t.kind is, refl);
      class = λ x t is. inl is;
    })

pub some_name : NameTree
some_name = record { text = []; line = 1 }

pub name_reads : Reads (λ name. IsName name) (AName ∷ []) false never name_at name_at
unfolding name_at
name_reads =
    tested_reads {test = is_name} {value = λ t. record { text = t.text; line = t.line }} some_name
    (record {
      ended = refl;
      gives = λ t ts. refl;
      is = λ t h. (is_name_is t.kind h, refl);
      only = λ x t is. (ap is_name is.0, is.1);
      class = λ x t is. inl is.0;
    })

-- a token by its kind
number_token : (t : Lexeme) (k : TokenKind) → t.kind ≡ k
    → ((x : NodeText) × ((t.kind ≡ kind.Number x.number) × (x.line ≡ t.line)))
    ⊎ ((ts : List Lexeme) → number_in k t.line ts ≡ Err (At t.line))
number_token t (kind.Number n) e = inl (record { number = n; line = t.line }, (e, refl))
number_token t (kind.Word w) e = inr (λ ts. refl)
number_token t (kind.Symbol s) e = inr (λ ts. refl)
number_token t kind.Name e = inr (λ ts. refl)

pub number_reads : Reads (λ (n : NodeText). IsNumberOn n.number n.line) (ANumber ∷ []) false never number_at number_at
unfolding number_at
number_reads =
    one_reads (λ (x : NodeText) t. (t.kind ≡ kind.Number x.number) × (x.line ≡ t.line)) (ANumber ∷ []) number_at
    (record { number = 0; line = 1 }) refl
    (λ x t ts is. ap (λ (k : TokenKind). number_in k t.line ts) is.0
    ∙ ap (λ (line : ℕ). let o : Read NodeText = Ok (record { number = x.number; line = line }, ts) in o) (sym is.1))
    (λ t. number_token t t.kind refl)
    (λ x t is. inl (x.number, is.0))

-- a number, wherever it stands
pub amount_reads : Reads (λ (n : ℕ). IsNumber n) (ANumber ∷ []) false never amount_at amount_at
amount_reads =
    as_reads (λ (n : NodeText). n.number) number_reads
    (record {
      whole = λ x l is. (is.0, is.1, is.2.0);
      begun = λ x l is. (x.number, is);
      back = λ z l is. (record { number = z; line = is.0.line }, refl, (is.0, is.1, (is.2, refl)));
      back_begun = λ z l is. (record { number = z; line = 1 }, is);
    })

edition_token : (edition : ℕ) (t : Lexeme) (k : TokenKind) → t.kind ≡ k
    → ((u : Unit {0}) × (t.kind ≡ kind.Number edition))
    ⊎ ((ts : List Lexeme)
    → (number_in k t.line ts >>= λ number. if_edition edition number.0 number.1) ≡ Err (At t.line))
edition_token edition t (kind.Number n) e = at_value (n == edition) refl
  where
    at_value : (b : Bool) → (n == edition) ≡ b
        → ((u : Unit {0}) × (t.kind ≡ kind.Number edition))
        ⊎ ((ts : List Lexeme)
        → cond {A = Read (Unit {0})} (n == edition) (Ok (tt, ts)) (Err (At t.line)) ≡ Err (At t.line))
    at_value true h = inl (tt, e ∙ ap kind.Number (eqb-true n edition h))
    at_value false h = inr (λ ts. cond_false (n == edition) (Ok (tt, ts)) (Err (At t.line)) h)
edition_token edition t (kind.Word w) e = inr (λ ts. refl)
edition_token edition t (kind.Symbol s) e = inr (λ ts. refl)
edition_token edition t kind.Name e = inr (λ ts. refl)

edition_passes : (edition : ℕ) (t : Lexeme) (ts : List Lexeme)
    → (number_in (kind.Number edition) t.line ts >>= λ number. if_edition edition number.0 number.1) ≡ Ok (tt, ts)
edition_passes edition t ts =
    cond_true (edition == edition) (Ok (tt, ts)) (Err (At t.line)) (eq-eqb edition edition refl)

pub edition_number_reads : (edition : ℕ)
    → Reads (λ (u : Unit {0}). IsNumber edition) (AValue edition ∷ []) false never (edition_number_at edition)
    (edition_number_at edition)
unfolding edition_number_at number_at
edition_number_reads edition =
    one_reads (λ (u : Unit {0}) t. t.kind ≡ kind.Number edition) (AValue edition ∷ []) (edition_number_at edition) tt
    refl
    (λ x t ts is. ap (λ (k : TokenKind). number_in k t.line ts >>= λ number. if_edition edition number.0 number.1) is
    ∙ edition_passes edition t ts)
    (λ t. edition_token edition t t.kind refl)
    (λ x t is. inl is)

-- ---- operators

abbrev pub products : Edition → List Class
products First = ASymbol symbol.Star ∷ []
products Second = ASymbol symbol.Star ∷ AWord keyword.Div ∷ AWord keyword.Mod ∷ []

abbrev pub operators : Edition → Level → List Class
operators edition Product = products edition
operators edition Sum = ASymbol symbol.Plus ∷ ASymbol symbol.Minus ∷ []
operators edition Comparison =
    ASymbol symbol.Equal ∷ ASymbol symbol.NotEqual ∷ ASymbol symbol.Less ∷ ASymbol symbol.LessOrEqual
    ∷ ASymbol symbol.Greater ∷ ASymbol symbol.GreaterOrEqual ∷ []

operator_is : (edition : Edition) (o : Operator) → has_this o edition ≡ true
    → any_operator edition (operator_kind o) ≡ Some o
operator_is edition Add h = refl
operator_is edition Subtract h = refl
operator_is edition Multiply h = refl
operator_is First Divide h = absurd cc
operator_is Second Divide h = refl
operator_is First Remainder h = absurd cc
operator_is Second Remainder h = refl
operator_is edition Equal h = refl
operator_is edition NotEqual h = refl
operator_is edition Less h = refl
operator_is edition LessOrEqual h = refl
operator_is edition Greater h = refl
operator_is edition GreaterOrEqual h = refl

abbrev IsKnown : Edition → TokenKind → Operator → Type 0
IsKnown edition k o = (k ≡ operator_kind o) × (has_this o edition ≡ true)

known_as : (edition : Edition) (k : TokenKind) (p o : Operator) → p ≡ o → IsKnown edition k p → IsKnown edition k o
known_as edition k p o e = subst (IsKnown edition k) e

symbol_known : (edition : Edition) (s : Symbol) (o : Operator) → operator_of s ≡ Some o
    → IsKnown edition (kind.Symbol s) o
symbol_known edition symbol.Plus o e = let h : Add ≡ o = cc in
    known_as edition (kind.Symbol symbol.Plus) Add o h (refl, refl)
symbol_known edition symbol.Minus o e = let h : Subtract ≡ o = cc in
    known_as edition (kind.Symbol symbol.Minus) Subtract o h (refl, refl)
symbol_known edition symbol.Star o e = let h : Multiply ≡ o = cc in
    known_as edition (kind.Symbol symbol.Star) Multiply o h (refl, refl)
symbol_known edition symbol.Equal o e = let h : Equal ≡ o = cc in
    known_as edition (kind.Symbol symbol.Equal) Equal o h (refl, refl)
symbol_known edition symbol.NotEqual o e = let h : NotEqual ≡ o = cc in
    known_as edition (kind.Symbol symbol.NotEqual) NotEqual o h (refl, refl)
symbol_known edition symbol.Less o e = let h : Less ≡ o = cc in
    known_as edition (kind.Symbol symbol.Less) Less o h (refl, refl)
symbol_known edition symbol.LessOrEqual o e = let h : LessOrEqual ≡ o = cc in
    known_as edition (kind.Symbol symbol.LessOrEqual) LessOrEqual o h (refl, refl)
symbol_known edition symbol.Greater o e = let h : Greater ≡ o = cc in
    known_as edition (kind.Symbol symbol.Greater) Greater o h (refl, refl)
symbol_known edition symbol.GreaterOrEqual o e = let h : GreaterOrEqual ≡ o = cc in
    known_as edition (kind.Symbol symbol.GreaterOrEqual) GreaterOrEqual o h (refl, refl)
symbol_known edition symbol.Semicolon o e = absurd cc
symbol_known edition symbol.LeftBrace o e = absurd cc
symbol_known edition symbol.RightBrace o e = absurd cc
symbol_known edition symbol.LeftParenthesis o e = absurd cc
symbol_known edition symbol.RightParenthesis o e = absurd cc
symbol_known edition symbol.Assign o e = absurd cc

word_known : (edition : Edition) (w : Keyword) (o : Operator) → word_operator w edition ≡ Some o
    → IsKnown edition (kind.Word w) o
word_known First keyword.Div o e = absurd cc
word_known First keyword.Mod o e = absurd cc
word_known Second keyword.Div o e = let h : Divide ≡ o = cc in
    known_as Second (kind.Word keyword.Div) Divide o h (refl, refl)
word_known Second keyword.Mod o e = let h : Remainder ≡ o = cc in
    known_as Second (kind.Word keyword.Mod) Remainder o h (refl, refl)
word_known edition keyword.Kahn o e = absurd cc
word_known edition keyword.Input o e = absurd cc
word_known edition keyword.Chan o e = absurd cc
word_known edition keyword.Output o e = absurd cc
word_known edition keyword.Process o e = absurd cc
word_known edition keyword.On o e = absurd cc
word_known edition keyword.Var o e = absurd cc
word_known edition keyword.Loop o e = absurd cc
word_known edition keyword.Get o e = absurd cc
word_known edition keyword.Put o e = absurd cc
word_known edition keyword.To o e = absurd cc
word_known edition keyword.If o e = absurd cc
word_known edition keyword.Else o e = absurd cc
word_known edition keyword.Stop o e = absurd cc
word_known edition keyword.Repeat o e = absurd cc

any_known : (edition : Edition) (k : TokenKind) (o : Operator) → any_operator edition k ≡ Some o
    → IsKnown edition k o
any_known edition (kind.Symbol s) o e = symbol_known edition s o e
any_known edition (kind.Word w) o e = word_known edition w o e
any_known edition (kind.Number n) o e = absurd cc
any_known edition kind.Name o e = absurd cc

level_same : (a b : Level) → is_level a b ≡ true → a ≡ b
level_same Product Product e = refl
level_same Product Sum e = absurd cc
level_same Product Comparison e = absurd cc
level_same Sum Product e = absurd cc
level_same Sum Sum e = refl
level_same Sum Comparison e = absurd cc
level_same Comparison Product e = absurd cc
level_same Comparison Sum e = absurd cc
level_same Comparison Comparison e = refl

level_is : (a : Level) → is_level a a ≡ true
level_is Product = refl
level_is Sum = refl
level_is Comparison = refl

product_class : (edition : Edition) (o : Operator) (k : TokenKind) → k ≡ operator_kind o
    → level_of o ≡ Product → has_this o edition ≡ true → IsOf (products edition) k
product_class First Multiply k e h f = inl e
product_class Second Multiply k e h f = inl e
product_class First Divide k e h f = absurd cc
product_class Second Divide k e h f = inr (inl e)
product_class First Remainder k e h f = absurd cc
product_class Second Remainder k e h f = inr (inr (inl e))
product_class edition Add k e h f = absurd cc
product_class edition Subtract k e h f = absurd cc
product_class edition Equal k e h f = absurd cc
product_class edition NotEqual k e h f = absurd cc
product_class edition Less k e h f = absurd cc
product_class edition LessOrEqual k e h f = absurd cc
product_class edition Greater k e h f = absurd cc
product_class edition GreaterOrEqual k e h f = absurd cc

operator_class : (edition : Edition) (level : Level) (o : Operator) (k : TokenKind) → k ≡ operator_kind o
    → level_of o ≡ level → has_this o edition ≡ true → IsOf (operators edition level) k
operator_class edition Product o k e h f = product_class edition o k e h f
operator_class edition Sum Add k e h f = inl e
operator_class edition Sum Subtract k e h f = inr (inl e)
operator_class edition Comparison Equal k e h f = inl e
operator_class edition Comparison NotEqual k e h f = inr (inl e)
operator_class edition Comparison Less k e h f = inr (inr (inl e))
operator_class edition Comparison LessOrEqual k e h f = inr (inr (inr (inl e)))
operator_class edition Comparison Greater k e h f = inr (inr (inr (inr (inl e))))
operator_class edition Comparison GreaterOrEqual k e h f = inr (inr (inr (inr (inr (inl e)))))
operator_class edition Sum Multiply k e h f = absurd cc
operator_class edition Sum Divide k e h f = absurd cc
operator_class edition Sum Remainder k e h f = absurd cc
operator_class edition Sum Equal k e h f = absurd cc
operator_class edition Sum NotEqual k e h f = absurd cc
operator_class edition Sum Less k e h f = absurd cc
operator_class edition Sum LessOrEqual k e h f = absurd cc
operator_class edition Sum Greater k e h f = absurd cc
operator_class edition Sum GreaterOrEqual k e h f = absurd cc
operator_class edition Comparison Add k e h f = absurd cc
operator_class edition Comparison Subtract k e h f = absurd cc
operator_class edition Comparison Multiply k e h f = absurd cc
operator_class edition Comparison Divide k e h f = absurd cc
operator_class edition Comparison Remainder k e h f = absurd cc

abbrev IsOperatorToken : Edition → Level → Operator → Lexeme → Type 0
IsOperatorToken edition level o t =
    (t.kind ≡ operator_kind o) × (level_of o ≡ level) × (has_this o edition ≡ true)

-- the operator that was found, if any
found_operator : (edition : Edition) (level : Level) (t : Lexeme) (found : Option Operator)
    → any_operator edition t.kind ≡ found
    → ((o : Operator) × IsOperatorToken edition level o t)
    ⊎ ((ts : List Lexeme) → picked (if_level level found) t.line ts ≡ Err (At t.line))
found_operator edition level t None h = inr (λ ts. refl)
found_operator edition level t (Some o) h = at_level (is_level (level_of o) level) refl
  where
    at_level : (b : Bool) → is_level (level_of o) level ≡ b
        → ((p : Operator) × IsOperatorToken edition level p t)
        ⊎ ((ts : List Lexeme)
        → picked (cond (is_level (level_of o) level) (Some o) None) t.line ts ≡ Err (At t.line))
    at_level true f =
        let known = any_known edition t.kind o h in inl (o, (known.0, level_same (level_of o) level f, known.1))
    at_level false f =
        inr (λ ts. ap (λ (p : Option Operator). picked p t.line ts)
        (cond_false (is_level (level_of o) level) (Some o) None f))

operator_found : (edition : Edition) (level : Level) (o : Operator) → level_of o ≡ level → has_this o edition ≡ true
    → operator_in edition level (operator_kind o) ≡ Some o
operator_found edition level o h f =
    ap (if_level level) (operator_is edition o f)
    ∙ cond_true (is_level (level_of o) level) (Some o) None
    (ap (λ (l : Level). is_level l level) h ∙ level_is level)

abbrev pub some_operator : Level → Operator
some_operator Product = Multiply
some_operator Sum = Add
some_operator Comparison = Equal

pub operator_reads : (edition : Edition) (level : Level)
    → Reads (λ o. IsOperator edition level o) (operators edition level) false never (operator_at edition level)
    (operator_at edition level)
unfolding operator_at
operator_reads edition level =
    one_reads (λ o t. IsOperatorToken edition level o t) (operators edition level)
    (operator_at edition level) (some_operator level) refl
    (λ o t ts is. ap (λ (p : Option Operator). picked p t.line ts)
    (ap (operator_in edition level) is.0 ∙ operator_found edition level o is.1 is.2))
    (λ t. found_operator edition level t (any_operator edition t.kind) refl)
    (λ o t is. operator_class edition level o t.kind is.0 is.1 is.2)

-- each token with which a product goes on passes the test
products_pass : (edition : Edition) → Tests (has_operator edition Product) true (products edition)
products_pass First = (refl, tt)
products_pass Second = (refl, (refl, (refl, tt)))

-- ---- expressions

atom_token : (t : Lexeme) (k : TokenKind) → t.kind ≡ k
    → ((e : ExprTree)
    × (((n : ℕ) × (e ≡ LiteralTree (pos n)) × (t.kind ≡ kind.Number n))
    ⊎ ((name : NameTree) × (e ≡ VariableTree name) × (t.kind ≡ kind.Name)
    × (name ≡ record { text = t.text; line = t.line }))))
    ⊎ ((ts : List Lexeme) → atom_in k t ts ≡ Err (At t.line))
atom_token t (kind.Number n) e = inl (LiteralTree (pos n), inl (n, refl, e))
atom_token t kind.Name e =
    inl (
      VariableTree (record { text = t.text; line = t.line }),
      inr
          (record { text = t.text; line = t.line }, refl, e, refl),
    )
atom_token t (kind.Word w) e = inr (λ ts. refl)
atom_token t (kind.Symbol s) e = inr (λ ts. refl)

AtomIs : ExprTree → Lexeme → Type 0
AtomIs e t =
    ((n : ℕ) × (e ≡ LiteralTree (pos n)) × (t.kind ≡ kind.Number n))
    ⊎ ((name : NameTree) × (e ≡ VariableTree name) × (t.kind ≡ kind.Name)
    × (name ≡ record { text = t.text; line = t.line }))

atom_passes : (e : ExprTree) (t : Lexeme) (ts : List Lexeme) → AtomIs e t → atom_in t.kind t ts ≡ Ok (e, ts)
unfolding AtomIs
atom_passes e t ts (inl n) =
    ap (λ (k : TokenKind). atom_in k t ts) n.2
    ∙ ap (λ (x : ExprTree). let o : Read ExprTree = Ok (x, ts) in o) (sym n.1)
atom_passes e t ts (inr name) =
    ap (λ (k : TokenKind). atom_in k t ts) name.2
    ∙ ap (λ (x : NameTree). let o : Read ExprTree = Ok (VariableTree x, ts) in o) (sym name.3)
    ∙ ap (λ (x : ExprTree). let o : Read ExprTree = Ok (x, ts) in o) (sym name.1)

atom_class : (e : ExprTree) (t : Lexeme) → AtomIs e t → IsOf (ANumber ∷ AName ∷ []) t.kind
unfolding AtomIs
atom_class e t (inl n) = inl (n.0, n.2)
atom_class e t (inr name) = inr (inl name.2)

atom_whole : (e : ExprTree) (t : Lexeme) (l : List Lexeme) → l ≡ t ∷ [] → AtomIs e t → IsAtom e Whole l
unfolding AtomIs
atom_whole e t l p (inl n) = inl (n.0, n.1, (t, p, n.2))
atom_whole e t l p (inr name) = inr (name.0, name.1, (t, p, (name.2, name.3)))

atom_back : (e : ExprTree) (l : List Lexeme) → IsAtom e Whole l → (x : ExprTree) × (e ≡ x) × IsOne (AtomIs x) Whole l
unfolding AtomIs
atom_back e l (inl n) = (e, refl, (n.2.0, n.2.1, inl (n.0, n.1, n.2.2)))
atom_back e l (inr name) = (e, refl, (name.2.0, name.2.1, inr (name.0, name.1, name.2.2.0, name.2.2.1)))

atom_empty : (e : ExprTree) (l : List Lexeme) → IsAtom e Begun l → l ≡ []
atom_empty e l (inl n) = n.2
atom_empty e l (inr name) = name.2

pub atom_reads : Reads (λ e. IsAtom e) (ANumber ∷ AName ∷ []) false never atom_at atom_at
unfolding atom_at AtomIs
atom_reads =
    ruled_reads
    (one_reads AtomIs (ANumber ∷ AName ∷ []) atom_at (LiteralTree (pos 0)) refl (λ e t ts is. atom_passes e t ts is)
    (λ t. atom_token t t.kind refl) atom_class)
    (record {
      whole = λ e l is. atom_whole e is.0 l is.1 is.2;
      begun = λ e l is. (LiteralTree (pos 0), inl (0, refl, is));
      back = atom_back;
      back_begun = λ e l is. (e, atom_empty e l is);
    })

never_tests : (cs : List Class) → Tests never false cs
never_tests [] = tt
never_tests (AWord w ∷ cs) = (refl, never_tests cs)
never_tests (ASymbol x ∷ cs) = (refl, never_tests cs)
never_tests (AName ∷ cs) = (refl, never_tests cs)
never_tests (ANumber ∷ cs) = (λ n. refl, never_tests cs)
never_tests (AValue n ∷ cs) = (refl, never_tests cs)

-- a part with which nothing goes on, and then another
then_reads : {A B : Type 0} {P : A → Rule} {Q : B → Rule} {s s' : List Class} {e e' : Bool} {c' : TokenKind → Bool}
    {r d : Reader A} {r' d' : Reader B} → Reads P s e never r d → Reads Q s' e' c' r' d'
    → Reads (λ (x : A × B). P x.0 >> Q x.1) (pair_starts e s s') (pair_empty e e') (pair_continues e' never c')
    (pair_at r r') (pair_at d d')
then_reads {A} {B} {P} {Q} {s} {s'} h k = pair_reads h k (never_tests s')

-- a link, and a chain of links
pub link_reads : {P : ExprTree → Rule} {s : List Class} {c : TokenKind → Bool} {r d : Reader ExprTree}
    (edition : Edition) (level : Level) → Reads P s false c r d
    → Reads (λ link. IsLink edition level P link) (operators edition level) false c (link_of edition level r)
    (link_of edition level d)
link_reads {P} {s} {c} {r} {d} edition level h =
    as_reads (λ x. record { operator = x.0; value = x.1 }) (pair_reads (operator_reads edition level) h (never_tests s))
    (seen_by (λ x. record { operator = x.0; value = x.1 }) (λ z. (z.operator, z.value)) (λ x extent l is. is)
    (λ z extent l is. is) (λ z. refl))

abbrev pub chain_continues : Edition → Level → (TokenKind → Bool) → TokenKind → Bool
chain_continues edition level c = pair_continues true c (many_continues (has_operator edition level) c)

pub chain_reads : {P : ExprTree → Rule} {s : List Class} {c : TokenKind → Bool} {r d : Reader ExprTree}
    (edition : Edition) (level : Level) → Reads P s false c r d
    → Tests (has_operator edition level) true (operators edition level) → Tests c false (operators edition level)
    → Reads (λ e. IsChain edition level P e) s false (chain_continues edition level c) (chain_at edition level r)
    (chain_at edition level d)
chain_reads {P} edition level h starts apart =
    as_reads (λ x. chain_of x.0 x.1)
    (pair_reads h (each_reads (has_operator edition level) (link_reads edition level h) starts apart) apart)
    (record {
      whole = λ x l is. (x.0, x.1, refl, is);
      begun = λ x l is. (chain_of x.0 x.1, (x.0, x.1, refl, is));
      back = λ z l is. ((is.0, is.1), is.2, is.3);
      back_begun = λ z l is. ((is.0, is.1), is.3);
    })

abbrev pub SingletonOr : {A : Type 0} → (A → Rule) → List A → Rule
SingletonOr P xs = IsImage (λ x. x ∷ []) P xs or IsWhere (xs ≡ []) IsNothing

pub single_whole : {A : Type 0} (P : A → Rule) (xs : List A) (extent : Extent) (l : List Lexeme)
    → SingletonOr P xs extent l → IsAtMostOne P xs extent l
single_whole P xs extent l (inl one) = subst (λ (ys : List _). IsAtMostOne P ys extent l) (sym one.1) one.2
single_whole P xs extent l (inr none) = subst (λ (ys : List _). IsAtMostOne P ys extent l) (sym none.0) none.1

pub single_back : {A : Type 0} (P : A → Rule) (xs : List A) (extent : Extent) (l : List Lexeme)
    → IsAtMostOne P xs extent l → SingletonOr P xs extent l
single_back P [] extent l is = inr (refl, is)
single_back P (x ∷ []) extent l is = inl (x, refl, is)
single_back P (x ∷ y ∷ xs) extent l is = absurd is.0

pub at_most_one_reads : {A : Type 0} {P : A → Rule} {s : List Class} {c : TokenKind → Bool} {r d : Reader A}
    (test : TokenKind → Bool) → Reads P s false c r d → Tests test true s
    → Reads (λ xs. IsAtMostOne P xs) (s ++ []) true (either_continues true test c never) (at_most_one_at test r)
    (at_most_one_at test d)
at_most_one_reads {A} {P} test h starts =
    ruled_reads (either_reads test (image_reads (λ x. x ∷ []) h) (nothing_reads []) starts tt)
    (seen_by (λ xs. xs) (λ xs. xs) (single_whole P) (single_back P) (λ xs. refl))

-- what may go on behind a term, a sum and an expression
abbrev term_more : Edition → TokenKind → Bool
term_more edition = chain_continues edition Product never

abbrev sum_more : Edition → TokenKind → Bool
sum_more edition = chain_continues edition Sum (term_more edition)

abbrev pub expr_more : Edition → TokenKind → Bool
expr_more edition =
    pair_continues true (sum_more edition)
    (either_continues true (has_operator edition Comparison) (sum_more edition) never)

abbrev pub factor_starts : List Class
factor_starts = ASymbol symbol.LeftParenthesis ∷ ASymbol symbol.Minus ∷ ANumber ∷ AName ∷ []

abbrev FactorReads : (ExprTree → Rule) → Reader ExprTree → Reader ExprTree → Type 0
FactorReads P r d = Reads P factor_starts false never r d

abbrev ExprReads : Edition → (ExprTree → Rule) → Reader ExprTree → Reader ExprTree → Type 0
ExprReads edition P r d = Reads P factor_starts false (expr_more edition) r d

terms_read : {P : ExprTree → Rule} {r d : Reader ExprTree} (edition : Edition) → FactorReads P r d
    → Reads (λ e. IsTermOf edition P e) factor_starts false (term_more edition) (chain_at edition Product r)
    (chain_at edition Product d)
terms_read edition h = chain_reads edition Product h (products_pass edition) (never_tests (products edition))

sums_read : {P : ExprTree → Rule} {r d : Reader ExprTree} (edition : Edition) → FactorReads P r d
    → Reads (λ e. IsSumOf edition P e) factor_starts false (sum_more edition)
    (chain_at edition Sum (chain_at edition Product r)) (chain_at edition Sum (chain_at edition Product d))
sums_read edition h = chain_reads edition Sum (terms_read edition h) (refl, (refl, tt)) (refl, (refl, tt))

expr_of_reads : {P : ExprTree → Rule} {r d : Reader ExprTree} (edition : Edition) → FactorReads P r d
    → ExprReads edition (λ e. IsExprOf edition P e) (expr_of edition r) (expr_of edition d)
expr_of_reads {P} {r} {d} edition h =
    let sums = sums_read edition h in
    as_reads (λ x. chain_of x.0 x.1)
    (pair_reads sums
    (at_most_one_reads (has_operator edition Comparison) (link_reads edition Comparison sums)
    (refl, (refl, (refl, (refl, (refl, (refl, tt))))))) (refl, (refl, (refl, (refl, (refl, (refl, tt)))))))
    (record {
      whole = λ x l is. (x.0, x.1, refl, is);
      begun = λ x l is. (chain_of x.0 x.1, (x.0, x.1, refl, is));
      back = λ z l is. ((is.0, is.1), is.2, is.3);
      back_begun = λ z l is. ((is.0, is.1), is.3);
    })

parenthesised_reads : {P : ExprTree → Rule} {r d : Reader ExprTree} (edition : Edition) → FactorReads P r d
    → Reads (λ e. IsParenthesised edition P e) (ASymbol symbol.LeftParenthesis ∷ []) false never
    (parenthesised_of edition r)
    (parenthesised_of edition d)
parenthesised_reads edition h =
    as_reads (λ x. x.1.0)
    (pair_reads (symbol_reads symbol.LeftParenthesis)
    (pair_reads (expr_of_reads edition h) (symbol_reads symbol.RightParenthesis) (refl, tt))
    (refl, (refl, (λ n. refl, (refl, tt)))))
    (seen_by (λ x. x.1.0) (λ z. (tt, (z, tt))) (λ x extent l is. is) (λ z extent l is. is) (λ z. refl))

minus_reads : {P : ExprTree → Rule} {r d : Reader ExprTree} → FactorReads P r d
    → Reads (λ e. IsMinus P e) (ASymbol symbol.Minus ∷ []) false never (minus_of r) (minus_of d)
minus_reads h =
    as_reads (λ x. MinusTree x.1) (pair_reads (symbol_reads symbol.Minus) h (refl, (refl, (λ n. refl, (refl, tt)))))
    (record {
      whole = λ x l is. (x.1, refl, is);
      begun = λ x l is. (MinusTree x.1, (x.1, refl, is));
      back = λ z l is. ((tt, is.0), is.1, is.2);
      back_begun = λ z l is. ((tt, is.0), is.2);
    })

factor_of_reads : {P Q : ExprTree → Rule} {r d r' d' : Reader ExprTree}
    → Reads P (ASymbol symbol.LeftParenthesis ∷ []) false never r d
    → Reads Q (ASymbol symbol.Minus ∷ []) false never r' d'
    → FactorReads (λ e. P e or Q e or IsAtom e) (factor_of r r') (factor_of d d')
factor_of_reads h k =
    either_reads (has_symbol symbol.LeftParenthesis) h
    (either_reads (has_symbol symbol.Minus) k atom_reads (refl, tt) (λ n. refl, (refl, tt))) (refl, tt)
    (refl, (λ n. refl, (refl, tt)))

-- what is behind a symbol that opens is wanting at the end
opening_fails : {A B : Type 0} (s : Symbol) (view : Unit {0} × A → B) (r : Reader A) → r [] ≡ Err AtEnd
    → IsOpening s (as_at view (pair_at (symbol_at s) r))
unfolding symbol_at
opening_fails {A} {B} s view r none = record {
  ended = refl;
  opens = λ t h. ap seen (ap (with_value r) (cond_true (has_symbol s t.kind) (Ok (tt, [])) (Err (At t.line)) h))
      ∙ ap (λ (o : Read A). seen (behind o)) none;
  fails = λ t h. ap seen (ap (with_value r) (cond_false (has_symbol s t.kind) (Ok (tt, [])) (Err (At t.line)) h));
}
  where
    behind : Read A → Read (Unit {0} × A)
    behind o = o >>= λ b. Ok ((tt, b.0), b.1)

    with_value : Reader A → Read (Unit {0}) → Read (Unit {0} × A)
    with_value value o = o >>= λ a. value a.1 >>= λ b. Ok ((a.0, b.0), b.1)

    seen : Read (Unit {0} × A) → Read B
    seen o = o >>= λ x. Ok (view x.0, x.1)

factor_zero_back : (edition : Edition) (e : ExprTree) (l : List Lexeme) → (IsAwaited or IsAwaited or IsAtom e) Whole l
    → IsFactor edition zero e Whole l
unfolding IsFactor
factor_zero_back edition e l (inl none) = absurd none
factor_zero_back edition e l (inr (inl none)) = absurd none
factor_zero_back edition e l (inr (inr is)) = is

factor_zero_begun : (edition : Edition) (e : ExprTree) (l : List Lexeme) → (IsAwaited or IsAwaited or IsAtom e) Begun l
    → (z : ExprTree) × IsFactor edition zero z Begun l
unfolding IsFactor
factor_zero_begun edition e l (inl none) = (LiteralTree (pos 0), inl (0, refl, none))
factor_zero_begun edition e l (inr (inl none)) = (LiteralTree (pos 0), inl (0, refl, none))
factor_zero_begun edition e l (inr (inr is)) = (e, is)

pub factor_reads : (edition : Edition) (left : ℕ)
    → FactorReads (λ e. IsFactor edition left e) (factor_at edition left) (factor_at edition (suc left))
unfolding IsFactor factor_at atom_at
factor_reads edition zero =
    ruled_reads
    (factor_of_reads
    (unopened_reads (LiteralTree (pos 0)) (ASymbol symbol.LeftParenthesis ∷ []) symbol.LeftParenthesis
    (parenthesised_of edition (factor_at edition zero))
    (opening_fails symbol.LeftParenthesis (λ x. x.1.0)
    (pair_at (expr_of edition (factor_at edition zero)) (symbol_at symbol.RightParenthesis)) refl))
    (unopened_reads (LiteralTree (pos 0)) (ASymbol symbol.Minus ∷ []) symbol.Minus (minus_of (factor_at edition zero))
    (opening_fails symbol.Minus (λ x. MinusTree x.1) (factor_at edition zero) refl)))
    (record {
      whole = factor_zero_back edition;
      begun = factor_zero_begun edition;
      back = λ z l is. (z, refl, inr (inr is));
      back_begun = λ z l is. (z, inr (inr is));
    })
factor_reads edition (suc left) =
    let inner = factor_reads edition left in
    factor_of_reads (parenthesised_reads edition inner) (minus_reads inner)

abbrev LinkRule : Edition → Level → (ExprTree → Rule) → LinkTree → Rule
LinkRule edition Product P = IsLink edition Product P
LinkRule edition Sum P = IsLink edition Sum (IsTermOf edition P)
LinkRule edition Comparison P = IsLink edition Comparison (IsSumOf edition P)

abbrev LinkMore : Edition → Level → TokenKind → Bool
LinkMore edition Product = never
LinkMore edition Sum = term_more edition
LinkMore edition Comparison = sum_more edition

-- a link of any level
pub link_at_reads : (edition : Edition) (level : Level) (left : ℕ)
    → Reads (LinkRule edition level (IsFactor edition left)) (operators edition level) false (LinkMore edition level)
    (link_at edition level left) (link_at edition level (suc left))
unfolding link_at
link_at_reads edition Product left = link_reads edition Product (factor_reads edition left)
link_at_reads edition Sum left = link_reads edition Sum (terms_read edition (factor_reads edition left))
link_at_reads edition Comparison left = link_reads edition Comparison (sums_read edition (factor_reads edition left))

pub expr_reads : (edition : Edition) (left : ℕ)
    → ExprReads edition (λ e. IsExpr edition left e) (expr_at edition left) (expr_at edition (suc left))
unfolding expr_at
expr_reads edition left = expr_of_reads edition (factor_reads edition left)

-- ---- statements

got_reads : Reads (λ channel. IsWord keyword.Get >> IsName channel >> IsSymbol symbol.Semicolon)
    (AWord keyword.Get ∷ []) false never got_at got_at
unfolding got_at
got_reads =
    as_reads (λ x. x.1.0) (then_reads (word_reads keyword.Get) (then_reads name_reads (symbol_reads symbol.Semicolon)))
    (seen_by (λ x. x.1.0) (λ z. (tt, (z, tt))) (λ x extent l is. is) (λ z extent l is. is) (λ z. refl))

assigned_reads : (edition : Edition) (left : ℕ)
    → Reads (λ e. IsExpr edition left e >> IsSymbol symbol.Semicolon) factor_starts false never
    (assigned_at edition left)
    (assigned_at edition (suc left))
unfolding assigned_at
assigned_reads edition left =
    as_reads (λ x. x.0) (pair_reads (expr_reads edition left) (symbol_reads symbol.Semicolon) (refl, tt))
    (seen_by (λ x. x.0) (λ z. (z, tt)) (λ x extent l is. is) (λ z extent l is. is) (λ z. refl))

-- what follows a name and =
abbrev pub IsGiven : Edition → ℕ → NameTree ⊎ ExprTree → Rule
IsGiven edition left (inl channel) = IsWord keyword.Get >> IsName channel >> IsSymbol symbol.Semicolon
IsGiven edition left (inr value) = IsExpr edition left value >> IsSymbol symbol.Semicolon

abbrev pub GivenEither : Edition → ℕ → NameTree ⊎ ExprTree → Rule
GivenEither edition left g =
    IsImage inl (λ channel. IsWord keyword.Get >> IsName channel >> IsSymbol symbol.Semicolon) g or IsImage inr
    (λ e. IsExpr edition left e >> IsSymbol symbol.Semicolon) g

pub given_there : (edition : Edition) (left : ℕ) (g : NameTree ⊎ ExprTree) (extent : Extent) (l : List Lexeme)
    → GivenEither edition left g extent l → IsGiven edition left g extent l
given_there edition left g extent l (inl is) =
    subst (λ (h : NameTree ⊎ ExprTree). IsGiven edition left h extent l) (sym is.1) is.2
given_there edition left g extent l (inr is) =
    subst (λ (h : NameTree ⊎ ExprTree). IsGiven edition left h extent l) (sym is.1) is.2

pub given_back : (edition : Edition) (left : ℕ) (g : NameTree ⊎ ExprTree) (extent : Extent) (l : List Lexeme)
    → IsGiven edition left g extent l → GivenEither edition left g extent l
given_back edition left (inl channel) extent l is = inl (channel, refl, is)
given_back edition left (inr value) extent l is = inr (value, refl, is)

given_reads : (edition : Edition) (left : ℕ)
    → Reads (λ g. IsGiven edition left g) (AWord keyword.Get ∷ factor_starts) false never
    (either_at (has_word keyword.Get) (as_at inl got_at) (as_at inr (assigned_at edition left)))
    (either_at (has_word keyword.Get) (as_at inl got_at) (as_at inr (assigned_at edition (suc left))))
given_reads edition left =
    ruled_reads
    (either_reads (has_word keyword.Get) (image_reads inl got_reads)
    (image_reads inr (assigned_reads edition left)) (refl, tt) (refl, (refl, (λ n. refl, (refl, tt)))))
    (seen_by (λ g. g) (λ g. g) (given_there edition left) (given_back edition left) (λ g. refl))

-- a statement alone that begins with a name
abbrev pub IsNamed : Edition → ℕ → BlockTree → Rule
IsNamed edition left NothingTree = IsWhere ⊥ IsNothing
IsNamed edition left (GetTree variable channel rest) = IsWhere (rest ≡ NothingTree) (IsGet variable channel)
IsNamed edition left (AssignTree variable value rest) =
    IsWhere (rest ≡ NothingTree) (IsAssign edition left variable value)
IsNamed edition left (PutTree value channel rest) = IsWhere ⊥ IsNothing
IsNamed edition left (StopTree rest) = IsWhere ⊥ IsNothing
IsNamed edition left (IfTree test first second rest) = IsWhere ⊥ IsNothing
IsNamed edition left (RepeatTree times line body rest) = IsWhere ⊥ IsNothing

abbrev pub NamedParts : Edition → ℕ → NameTree × (Unit {0} × (NameTree ⊎ ExprTree)) → Rule
NamedParts edition left x = IsName x.0 >> IsSymbol symbol.Assign >> IsGiven edition left x.1.1

pub named_there : (edition : Edition) (left : ℕ) (variable : NameTree) (g : NameTree ⊎ ExprTree) (extent : Extent)
    (l : List Lexeme) → NamedParts edition left (variable, (tt, g)) extent l
    → IsNamed edition left (named_tree variable g) extent l
named_there edition left variable (inl channel) extent l is = (refl, is)
named_there edition left variable (inr value) extent l is = (refl, is)

pub named_back : (edition : Edition) (left : ℕ) (z : BlockTree) (extent : Extent) (l : List Lexeme)
    → IsNamed edition left z extent l
    → (x : NameTree × (Unit {0} × (NameTree ⊎ ExprTree))) × (z ≡ named_tree x.0 x.1.1)
    × NamedParts edition left x extent l
named_back edition left NothingTree extent l is = absurd is.0
named_back edition left (GetTree variable channel rest) extent l is =
    ((variable, (tt, inl channel)), ap (GetTree variable channel) is.0, is.1)
named_back edition left (AssignTree variable value rest) extent l is =
    ((variable, (tt, inr value)), ap (AssignTree variable value) is.0, is.1)
named_back edition left (PutTree value channel rest) extent l is = absurd is.0
named_back edition left (StopTree rest) extent l is = absurd is.0
named_back edition left (IfTree test first second rest) extent l is = absurd is.0
named_back edition left (RepeatTree times line body rest) extent l is = absurd is.0

named_reads : (edition : Edition) (left : ℕ)
    → Reads (λ z. IsNamed edition left z) (AName ∷ []) false never (named_at edition left) (named_at edition (suc left))
unfolding named_at
named_reads edition left =
    as_reads (λ x. named_tree x.0 x.1.1)
    (then_reads name_reads (then_reads (symbol_reads symbol.Assign) (given_reads edition left)))
    (record {
      whole = λ x l is. named_there edition left x.0 x.1.1 Whole l is;
      begun = λ x l is. (named_tree x.0 x.1.1, named_there edition left x.0 x.1.1 Begun l is);
      back = λ z l is. named_back edition left z Whole l is;
      back_begun = λ z l is. let x = named_back edition left z Begun l is in (x.0, x.2);
    })

abbrev pub PutParts : Edition → ℕ → Unit {0} × (ExprTree × (Unit {0} × (NameTree × Unit {0}))) → Rule
PutParts edition left x = IsPut edition left x.1.0 x.1.1.1.0

abbrev pub put_made : Unit {0} × (ExprTree × (Unit {0} × (NameTree × Unit {0}))) → BlockTree
put_made x = PutTree x.1.0 x.1.1.1.0 NothingTree

put_reads : (edition : Edition) (left : ℕ)
    → Reads (IsImage put_made (PutParts edition left)) (AWord keyword.Put ∷ []) false never (put_at edition left)
    (put_at edition (suc left))
unfolding put_at
put_reads edition left =
    image_reads put_made
    (then_reads (word_reads keyword.Put)
    (pair_reads (expr_reads edition left)
    (then_reads (word_reads keyword.To) (then_reads name_reads (symbol_reads symbol.Semicolon))) (refl, tt)))

abbrev pub stop_made : Unit {0} × Unit {0} → BlockTree
stop_made x = StopTree NothingTree

stop_reads : Reads (IsImage stop_made (λ x. IsStop)) (AWord keyword.Stop ∷ []) false never stop_at stop_at
unfolding stop_at
stop_reads = image_reads stop_made (then_reads (word_reads keyword.Stop) (symbol_reads symbol.Semicolon))

abbrev BlockReads : (BlockTree → Rule) → Reader BlockTree → Reader BlockTree → Type 0
BlockReads P r d = Reads P (ASymbol symbol.LeftBrace ∷ []) false never r d

-- what may go on behind a statement
abbrev else_more : TokenKind → Bool
else_more = either_continues true (has_word keyword.Else) never never

else_reads : {P : BlockTree → Rule} {r d : Reader BlockTree} → BlockReads P r d
    → Reads (λ z. IsElse z (P z)) (AWord keyword.Else ∷ []) true else_more (else_of r) (else_of d)
else_reads h =
    either_reads (has_word keyword.Else)
    (as_reads (λ x. x.1) (then_reads (word_reads keyword.Else) h)
    (seen_by (λ x. x.1) (λ z. (tt, z)) (λ x extent l is. is) (λ z extent l is. is) (λ z. refl)))
    (nothing_reads NothingTree) (refl, tt) tt

abbrev pub IfParts : Edition → ℕ → (BlockTree → Rule) → Unit {0} × (ExprTree × (BlockTree × BlockTree)) → Rule
IfParts edition left P x = IsIf edition left x.1.0 (P x.1.1.0) x.1.1.1 (P x.1.1.1)

abbrev pub if_parts : Unit {0} × (ExprTree × (BlockTree × BlockTree)) → BlockTree
if_parts x = IfTree x.1.0 x.1.1.0 x.1.1.1 NothingTree

if_reads : {P : BlockTree → Rule} {r d : Reader BlockTree} (edition : Edition) (left : ℕ) → BlockReads P r d
    → Reads (IsImage if_parts (IfParts edition left P)) (AWord keyword.If ∷ []) false
    (pair_continues true never else_more) (if_of (expr_at edition left) r)
    (if_of (expr_at edition (suc left)) d)
if_reads edition left h =
    image_reads if_parts
    (then_reads (word_reads keyword.If)
    (pair_reads (expr_reads edition left) (then_reads h (else_reads h)) (refl, tt)))

abbrev pub repeat_parts : ℕ × (ℕ × BlockTree) → BlockTree
repeat_parts x = RepeatTree x.1.0 x.0 x.1.1 NothingTree

abbrev pub RepeatParts : Counts → (BlockTree → Rule) → ℕ × (ℕ × BlockTree) → Rule
RepeatParts counts P x = IsWordOn keyword.Repeat x.0 >> IsCount counts x.1.0 >> P x.1.1

repeat_reads : {P : BlockTree → Rule} {r d : Reader BlockTree} (counts : Counts) → d [] ≡ Err AtEnd → BlockReads P r d
    → Reads (IsImage repeat_parts (RepeatParts counts P)) (AWord keyword.Repeat ∷ []) false never (repeat_of counts r)
    (repeat_of Unranged d)
repeat_reads counts ended h =
    image_reads repeat_parts (then_reads (word_on_reads keyword.Repeat) (counted_reads counts ended h))

-- a statement with blocks: an if, and in the second edition a repetition too
abbrev pub IsNested : Edition → Counts → ℕ → (BlockTree → Rule) → BlockTree → Rule
IsNested First counts left P z = IsImage if_parts (IfParts First left P) z
IsNested Second counts left P z =
    IsImage repeat_parts (RepeatParts counts P) z or IsImage if_parts (IfParts Second left P) z

abbrev nested_starts : Edition → List Class
nested_starts First = AWord keyword.If ∷ []
nested_starts Second = AWord keyword.Repeat ∷ AWord keyword.If ∷ []

-- what may go on behind a statement
abbrev statement_more : TokenKind → Bool
statement_more = pair_continues true never else_more

nested_reads : {P : BlockTree → Rule} {r d : Reader BlockTree} (edition : Edition) (counts : Counts) (left : ℕ)
    → d [] ≡ Err AtEnd → BlockReads P r d
    → Reads (λ z. IsNested edition counts left P z) (nested_starts edition) false statement_more
    (nested_of edition (repeat_of counts r) (if_of (expr_at edition left) r))
    (nested_of edition (repeat_of Unranged d) (if_of (expr_at edition (suc left)) d))
nested_reads First counts left ended h = if_reads First left h
nested_reads Second counts left ended h =
    either_reads (has_word keyword.Repeat) (repeat_reads counts ended h) (if_reads Second left h) (refl, tt) (refl, tt)

-- a statement alone
unfoldable pub IsSingle : Edition → Counts → ℕ → BlockTree → Rule
IsSingle edition counts left NothingTree = IsWhere ⊥ IsNothing
IsSingle edition counts left (GetTree variable channel rest) = IsWhere (rest ≡ NothingTree) (IsGet variable channel)
IsSingle edition counts left (AssignTree variable value rest) =
    IsWhere (rest ≡ NothingTree) (IsAssign edition left variable value)
IsSingle edition counts left (PutTree value channel rest) =
    IsWhere (rest ≡ NothingTree) (IsPut edition left value channel)
IsSingle edition counts left (StopTree rest) = IsWhere (rest ≡ NothingTree) IsStop
IsSingle edition counts left (IfTree test first second rest) =
    IsWhere (rest ≡ NothingTree)
    (IsIf edition left test (IsBlock edition counts left first) second (IsBlock edition counts left second))
IsSingle edition counts left (RepeatTree times line body rest) =
    IsWhere (rest ≡ NothingTree) (IsRepeat edition counts times line (IsBlock edition counts left body))

abbrev pub SingleEither : Edition → Counts → ℕ → BlockTree → Rule
SingleEither edition counts left z =
    IsNamed edition left z or IsImage put_made (PutParts edition left) z or IsImage stop_made (λ x. IsStop) z or
    IsNested edition counts left (λ b. IsBlock edition counts left b) z

named_single : (edition : Edition) (counts : Counts) (left : ℕ) (z : BlockTree) (extent : Extent) (l : List Lexeme)
    → IsNamed edition left z extent l
    → IsSingle edition counts left z extent l
unfolding IsSingle
named_single edition counts left NothingTree extent l is = is
named_single edition counts left (GetTree variable channel rest) extent l is = is
named_single edition counts left (AssignTree variable value rest) extent l is = is
named_single edition counts left (PutTree value channel rest) extent l is = absurd is.0
named_single edition counts left (StopTree rest) extent l is = absurd is.0
named_single edition counts left (IfTree test first second rest) extent l is = absurd is.0
named_single edition counts left (RepeatTree times line body rest) extent l is = absurd is.0

nested_single : (edition : Edition) (counts : Counts) (left : ℕ) (z : BlockTree) (extent : Extent) (l : List Lexeme)
    → IsNested edition counts left (λ b. IsBlock edition counts left b) z extent l
    → IsSingle edition counts left z extent l
unfolding IsSingle
nested_single First counts left z extent l is =
    subst (λ (b : BlockTree). IsSingle First counts left b extent l) (sym is.1) (refl, is.2)
nested_single Second counts left z extent l (inl is) =
    subst (λ (b : BlockTree). IsSingle Second counts left b extent l) (sym is.1) (refl, (refl, is.2))
nested_single Second counts left z extent l (inr is) =
    subst (λ (b : BlockTree). IsSingle Second counts left b extent l) (sym is.1) (refl, is.2)

if_nested : (edition : Edition) (counts : Counts) (left : ℕ) (P : BlockTree → Rule) (z : BlockTree)
    (extent : Extent) (l : List Lexeme) → IsImage if_parts (IfParts edition left P) z extent l
    → IsNested edition counts left P z extent l
if_nested First counts left P z extent l is = is
if_nested Second counts left P z extent l is = inr is

repeat_nested : (edition : Edition) (counts : Counts) (left : ℕ) (P : BlockTree → Rule) (z : BlockTree)
    (extent : Extent) (l : List Lexeme) → edition ≡ Second
    → IsImage repeat_parts (RepeatParts counts P) z extent l → IsNested edition counts left P z extent l
repeat_nested First counts left P z extent l e is = absurd cc
repeat_nested Second counts left P z extent l e is = inl is

pub single_there : (edition : Edition) (counts : Counts) (left : ℕ) (z : BlockTree) (extent : Extent) (l : List Lexeme)
    → SingleEither edition counts left z extent l → IsSingle edition counts left z extent l
unfolding IsSingle
single_there edition counts left z extent l (inl is) = named_single edition counts left z extent l is
single_there edition counts left z extent l (inr (inl is)) =
    subst (λ (b : BlockTree). IsSingle edition counts left b extent l) (sym is.1) (refl, is.2)
single_there edition counts left z extent l (inr (inr (inl is))) =
    subst (λ (b : BlockTree). IsSingle edition counts left b extent l) (sym is.1) (refl, is.2)
single_there edition counts left z extent l (inr (inr (inr is))) = nested_single edition counts left z extent l is

pub single_from : (edition : Edition) (counts : Counts) (left : ℕ) (z : BlockTree) (extent : Extent) (l : List Lexeme)
    → IsSingle edition counts left z extent l → SingleEither edition counts left z extent l
unfolding IsSingle
single_from edition counts left NothingTree extent l is = inl is
single_from edition counts left (GetTree variable channel rest) extent l is = inl is
single_from edition counts left (AssignTree variable value rest) extent l is = inl is
single_from edition counts left (PutTree value channel rest) extent l is =
    inr (inl ((tt, (value, (tt, (channel, tt)))), ap (PutTree value channel) is.0, is.1))
single_from edition counts left (StopTree rest) extent l is = inr (inr (inl ((tt, tt), ap StopTree is.0, is.1)))
single_from edition counts left (IfTree test first second rest) extent l is =
    inr
    (inr
    (inr
    (if_nested edition counts left (λ b. IsBlock edition counts left b) (IfTree test first second rest) extent l
    ((tt, (test, (first, second))), ap (IfTree test first second) is.0, is.1))))
single_from edition counts left (RepeatTree times line body rest) extent l is =
    inr
    (inr
    (inr
    (repeat_nested edition counts left (λ b. IsBlock edition counts left b) (RepeatTree times line body rest) extent l
    is.1.0 ((line, (times, body)), ap (RepeatTree times line body) is.0, is.1.1))))

abbrev statement_starts : Edition → List Class
statement_starts edition = AName ∷ AWord keyword.Put ∷ AWord keyword.Stop ∷ nested_starts edition

no_nested : (edition : Edition) (test : TokenKind → Bool) → test (kind.Word keyword.Repeat) ≡ false
    → test (kind.Word keyword.If) ≡ false → Tests test false (nested_starts edition)
no_nested First test h k = (k, tt)
no_nested Second test h k = (h, (k, tt))

statement_of_reads : {r d : Reader BlockTree} (edition : Edition) (counts : Counts) (left : ℕ) → d [] ≡ Err AtEnd
    → BlockReads (λ b. IsBlock edition counts left b) r d
    → Reads (λ z. IsSingle edition counts left z) (statement_starts edition) false statement_more
    (statement_of edition counts left r) (statement_of edition Unranged (suc left) d)
statement_of_reads edition counts left ended h =
    ruled_reads
    (either_reads is_name (named_reads edition left)
    (either_reads (has_word keyword.Put) (put_reads edition left)
    (either_reads (has_word keyword.Stop) stop_reads (nested_reads edition counts left ended h) (refl, tt)
    (no_nested edition (has_word keyword.Stop) refl refl)) (refl, tt)
    (refl, no_nested edition (has_word keyword.Put) refl refl)) (refl, tt)
    (refl, (refl, no_nested edition is_name refl refl)))
    (seen_by (λ z. z) (λ z. z) (single_there edition counts left) (single_from edition counts left) (λ z. refl))

-- one part and another, each for a like one
then_map : (P P' Q Q' : Rule) → ((extent : Extent) (l : List Lexeme) → P extent l → P' extent l)
    → ((extent : Extent) (l : List Lexeme) → Q extent l → Q' extent l) → (extent : Extent) (l : List Lexeme)
    → (P >> Q) extent l → (P' >> Q') extent l
then_map P P' Q Q' f g Whole l (a, b, parts, p, q) = (a, b, parts, f Whole a p, g Whole b q)
then_map P P' Q Q' f g Begun l (inl p) = inl (f Begun l p)
then_map P P' Q Q' f g Begun l (inr (a, b, parts, p, q)) = inr (a, b, parts, f Whole a p, g Begun b q)

-- a fact about the first part
where_out : (fact : Type 0) (P Q : Rule) (extent : Extent) (l : List Lexeme) → (IsWhere fact P >> Q) extent l
    → fact × (P >> Q) extent l
where_out fact P Q Whole l (a, b, parts, p, q) = (p.0, (a, b, parts, p.1, q))
where_out fact P Q Begun l (inl p) = (p.0, inl p.1)
where_out fact P Q Begun l (inr (a, b, parts, p, q)) = (p.0, inr (a, b, parts, p.1, q))

where_in : (fact : Type 0) (P Q Q' : Rule) → fact → ((extent : Extent) (l : List Lexeme) → Q extent l → Q' extent l)
    → (extent : Extent) (l : List Lexeme) → (P >> Q) extent l → (IsWhere fact P >> Q') extent l
where_in fact P Q Q' h g extent l is = then_map P (IsWhere fact P) Q Q' (λ x k p. (h, p)) g extent l is

-- the statements of a block, each alone
unfoldable pub singles_of : BlockTree → List BlockTree
singles_of NothingTree = []
singles_of (GetTree variable channel rest) = GetTree variable channel NothingTree ∷ singles_of rest
singles_of (AssignTree variable value rest) = AssignTree variable value NothingTree ∷ singles_of rest
singles_of (PutTree value channel rest) = PutTree value channel NothingTree ∷ singles_of rest
singles_of (StopTree rest) = StopTree NothingTree ∷ singles_of rest
singles_of (IfTree test first second rest) = IfTree test first second NothingTree ∷ singles_of rest
singles_of (RepeatTree times line body rest) = RepeatTree times line body NothingTree ∷ singles_of rest

pub singles_joined : (block : BlockTree) → block ≡ joined (singles_of block)
unfolding singles_of
singles_joined NothingTree = refl
singles_joined (GetTree variable channel rest) = ap (GetTree variable channel) (singles_joined rest)
singles_joined (AssignTree variable value rest) = ap (AssignTree variable value) (singles_joined rest)
singles_joined (PutTree value channel rest) = ap (PutTree value channel) (singles_joined rest)
singles_joined (StopTree rest) = ap StopTree (singles_joined rest)
singles_joined (IfTree test first second rest) = ap (IfTree test first second) (singles_joined rest)
singles_joined (RepeatTree times line body rest) = ap (RepeatTree times line body) (singles_joined rest)

pub singles_back : (edition : Edition) (counts : Counts) (left : ℕ) (block : BlockTree) (extent : Extent)
    (l : List Lexeme)
    → IsStatements edition counts left block extent l
    → IsEach (IsSingle edition counts left) (singles_of block) extent l
unfolding IsStatements IsSingle singles_of
singles_back edition counts left NothingTree extent l is = is
singles_back edition counts left (GetTree variable channel rest) extent l is =
    where_in _ (IsGet variable channel) (IsStatements edition counts left rest) _ refl
    (singles_back edition counts left rest) extent
    l is
singles_back edition counts left (AssignTree variable value rest) extent l is =
    where_in _ (IsAssign edition left variable value) (IsStatements edition counts left rest) _ refl
    (singles_back edition counts left rest) extent l is
singles_back edition counts left (PutTree value channel rest) extent l is =
    where_in _ (IsPut edition left value channel) (IsStatements edition counts left rest) _ refl
    (singles_back edition counts left rest) extent l is
singles_back edition counts left (StopTree rest) extent l is =
    where_in _ IsStop (IsStatements edition counts left rest) _ refl (singles_back edition counts left rest) extent l is
singles_back edition counts left (IfTree test first second rest) extent l is =
    where_in _ (IsIf edition left test (IsBlock edition counts left first) second (IsBlock edition counts left second))
    (IsStatements edition counts left rest) _ refl (singles_back edition counts left rest) extent l is
singles_back edition counts left (RepeatTree times line body rest) extent l is =
    where_in _ (IsRepeat edition counts times line (IsBlock edition counts left body))
    (IsStatements edition counts left rest) _ refl (singles_back edition counts left rest) extent l is

-- statements one after another are a block
then_rest : (edition : Edition) (counts : Counts) (left : ℕ) (P : Rule) (rest : BlockTree) (blocks : List BlockTree)
    → ((extent : Extent) (l : List Lexeme) → IsEach (IsSingle edition counts left) blocks extent l
    → IsStatements edition counts left (joined blocks) extent l)
    → (extent : Extent) (l : List Lexeme)
    → (IsWhere (rest ≡ NothingTree) P >> IsEach (IsSingle edition counts left) blocks) extent l
    → (P >> IsStatements edition counts left (append_block rest (joined blocks))) extent l
then_rest edition counts left P rest blocks more extent l is =
    let out = where_out (rest ≡ NothingTree) P (IsEach (IsSingle edition counts left) blocks) extent l is in
    subst (λ (r : BlockTree). (P >> IsStatements edition counts left (append_block r (joined blocks))) extent l)
    (sym out.0)
    (then_map P P (IsEach (IsSingle edition counts left) blocks) (IsStatements edition counts left (joined blocks))
    (λ x k p. p) more
    extent l out.1)

pub singles_there : (edition : Edition) (counts : Counts) (left : ℕ) (blocks : List BlockTree) (extent : Extent)
    (l : List Lexeme)
    → IsEach (IsSingle edition counts left) blocks extent l → IsStatements edition counts left (joined blocks) extent l
unfolding IsStatements IsSingle
singles_there edition counts left [] extent l is = is
singles_there edition counts left (NothingTree ∷ blocks) extent l is =
    absurd (where_out ⊥ IsNothing (IsEach (IsSingle edition counts left) blocks) extent l is).0
singles_there edition counts left (GetTree variable channel rest ∷ blocks) extent l is =
    then_rest edition counts left (IsGet variable channel) rest blocks (singles_there edition counts left blocks)
    extent l is
singles_there edition counts left (AssignTree variable value rest ∷ blocks) extent l is =
    then_rest edition counts left (IsAssign edition left variable value) rest blocks
    (singles_there edition counts left blocks)
    extent l is
singles_there edition counts left (PutTree value channel rest ∷ blocks) extent l is =
    then_rest edition counts left (IsPut edition left value channel) rest blocks
    (singles_there edition counts left blocks) extent l
    is
singles_there edition counts left (StopTree rest ∷ blocks) extent l is =
    then_rest edition counts left IsStop rest blocks (singles_there edition counts left blocks) extent l is
singles_there edition counts left (IfTree test first second rest ∷ blocks) extent l is =
    then_rest edition counts left
    (IsIf edition left test (IsBlock edition counts left first) second (IsBlock edition counts left second))
    rest blocks (singles_there edition counts left blocks) extent l is
singles_there edition counts left (RepeatTree times line body rest ∷ blocks) extent l is =
    then_rest edition counts left (IsRepeat edition counts times line (IsBlock edition counts left body)) rest blocks
    (singles_there edition counts left blocks) extent l is

abbrev statements_more : Edition → TokenKind → Bool
statements_more edition = many_continues (starts_statement edition) statement_more

-- each token with which a statement begins passes the test, and no token goes on with the one before
starts_pass : (edition : Edition) → Tests (starts_statement edition) true (statement_starts edition)
starts_pass First = (refl, (refl, (refl, (refl, tt))))
starts_pass Second = (refl, (refl, (refl, (refl, (refl, tt)))))

starts_apart : (edition : Edition) → Tests statement_more false (statement_starts edition)
starts_apart First = (refl, (refl, (refl, (refl, tt))))
starts_apart Second = (refl, (refl, (refl, (refl, (refl, tt)))))

-- what stands behind statements doesn't go on with them
brace_apart : (edition : Edition) → Tests (statements_more edition) false (ASymbol symbol.RightBrace ∷ [])
brace_apart First = (refl, tt)
brace_apart Second = (refl, tt)

loop_apart : (edition : Edition)
    → Tests (statements_more edition) false (AWord keyword.Loop ∷ ASymbol symbol.RightBrace ∷ [])
loop_apart First = (refl, (refl, tt))
loop_apart Second = (refl, (refl, tt))

statements_of_reads : {r d : Reader BlockTree} (edition : Edition) (counts : Counts) (left : ℕ)
    → Reads (λ z. IsSingle edition counts left z) (statement_starts edition) false statement_more r d
    → Reads (λ z. IsStatements edition counts left z) (statement_starts edition) true (statements_more edition)
    (statements_of edition r) (statements_of edition d)
statements_of_reads edition counts left h =
    as_reads joined
    (each_reads (starts_statement edition) h (starts_pass edition) (starts_apart edition))
    (seen_by joined singles_of (singles_there edition counts left) (singles_back edition counts left) singles_joined)

braced_reads : {P : BlockTree → Rule} {r d : Reader BlockTree} (edition : Edition)
    → Reads P (statement_starts edition) true (statements_more edition) r d
    → BlockReads (λ z. IsSymbol symbol.LeftBrace >> P z >> IsSymbol symbol.RightBrace) (braced_of r) (braced_of d)
braced_reads edition h =
    as_reads (λ x. x.1.0)
    (then_reads (symbol_reads symbol.LeftBrace)
    (pair_reads h (symbol_reads symbol.RightBrace) (brace_apart edition)))
    (seen_by (λ x. x.1.0) (λ z. (tt, (z, tt))) (λ x extent l is. is) (λ z extent l is. is) (λ z. refl))

-- a block is wanting at the end
block_ended : (edition : Edition) (counts : Counts) (left : ℕ) → block_at edition counts (suc left) [] ≡ Err AtEnd
unfolding block_at symbol_at
block_ended edition counts left = refl

pub block_reads : (edition : Edition) (counts : Counts) (left : ℕ)
    → BlockReads (λ b. IsBlock edition counts left b) (block_at edition counts left)
    (block_at edition Unranged (suc left))
unfolding block_at symbol_at
block_reads edition counts zero =
    unopened_reads NothingTree (ASymbol symbol.LeftBrace ∷ []) symbol.LeftBrace
    (braced_of (statements_of edition (statement_of edition Unranged zero (block_at edition Unranged zero))))
    (opening_fails symbol.LeftBrace (λ x. x.1.0)
    (pair_at (statements_of edition (statement_of edition Unranged zero (block_at edition Unranged zero)))
    (symbol_at symbol.RightBrace)) refl)
block_reads edition counts (suc left) =
    braced_reads edition
    (statements_of_reads edition counts left
    (statement_of_reads edition counts left (block_ended edition Unranged left) (block_reads edition counts left)))

pub statement_reads : (edition : Edition) (counts : Counts) (left : ℕ)
    → Reads (λ z. IsSingle edition counts left z) (statement_starts edition) false statement_more
    (statement_at edition counts left) (statement_at edition Unranged (suc left))
unfolding statement_at
statement_reads edition counts left =
    statement_of_reads edition counts left (block_ended edition Unranged left) (block_reads edition counts left)

pub statements_reads : (edition : Edition) (counts : Counts) (left : ℕ)
    → Reads (λ z. IsStatements edition counts left z) (statement_starts edition) true (statements_more edition)
    (statements_at edition counts left) (statements_at edition Unranged (suc left))
unfolding statements_at
statements_reads edition counts left =
    statements_of_reads edition counts left (statement_reads edition counts left)

-- ---- declarations

negative_reads : Reads (λ v. IsNegative v) (ASymbol symbol.Minus ∷ []) false never
    (as_at (λ x. neg_ℤ (pos x.1)) (pair_at (symbol_at symbol.Minus) amount_at))
    (as_at (λ x. neg_ℤ (pos x.1)) (pair_at (symbol_at symbol.Minus) amount_at))
negative_reads =
    as_reads (λ x. neg_ℤ (pos x.1)) (then_reads (symbol_reads symbol.Minus) amount_reads)
    (record {
      whole = λ x l is. (x.1, refl, is);
      begun = λ x l is. (neg_ℤ (pos x.1), (x.1, refl, is));
      back = λ z l is. ((tt, is.0), is.1, is.2);
      back_begun = λ z l is. ((tt, is.0), is.2);
    })

value_reads : Reads (λ v. IsNegative v or IsPositive v) (ASymbol symbol.Minus ∷ ANumber ∷ []) false never value_at
    value_at
unfolding value_at
value_reads =
    either_reads (has_symbol symbol.Minus) negative_reads (image_reads pos amount_reads) (refl, tt) (λ n. refl, tt)

initial_reads : Reads (λ v. IsInitial v) (ASymbol symbol.Assign ∷ []) true
    (either_continues true (has_symbol symbol.Assign) never never) initial_at initial_at
unfolding initial_at
initial_reads =
    either_reads (has_symbol symbol.Assign)
    (as_reads (λ x. x.1) (then_reads (symbol_reads symbol.Assign) value_reads)
    (seen_by (λ x. x.1) (λ z. (tt, z)) (λ x extent l is. is) (λ z extent l is. is) (λ z. refl)))
    (nothing_reads (pos 0)) (refl, tt) tt

pub variable_reads : Reads (λ v. IsVariable v) (AWord keyword.Var ∷ []) false never variable_at variable_at
unfolding variable_at
variable_reads =
    as_reads variable_tree
    (then_reads (word_on_reads keyword.Var)
    (then_reads name_reads (pair_reads initial_reads (symbol_reads symbol.Semicolon) (refl, tt))))
    (seen_by variable_tree (λ v. (v.line, (v.name, (v.initial, tt)))) (λ x extent l is. is) (λ z extent l is. is)
    (λ z. refl))

variables_reads : Reads (λ vs. IsEach IsVariable vs) (AWord keyword.Var ∷ []) true
    (many_continues (has_word keyword.Var) never) variables_at variables_at
unfolding variables_at
variables_reads = each_reads (has_word keyword.Var) variable_reads (refl, tt) (refl, tt)

abbrev pub LoopEither : Edition → Counts → ℕ → Option LoopTree → Rule
LoopEither edition counts left o =
    IsImage loop_text (λ x. IsWordOn keyword.Loop x.0 >> IsBlock edition counts left x.1) o or IsWhere (o ≡ None)
    IsNothing

pub loop_there : (edition : Edition) (counts : Counts) (left : ℕ) (o : Option LoopTree) (extent : Extent)
    (l : List Lexeme)
    → LoopEither edition counts left o extent l → IsLoop edition counts left o extent l
loop_there edition counts left o extent l (inl is) =
    subst (λ (p : Option LoopTree). IsLoop edition counts left p extent l) (sym is.1) is.2
loop_there edition counts left o extent l (inr is) =
    subst (λ (p : Option LoopTree). IsLoop edition counts left p extent l) (sym is.0) is.1

pub loop_back : (edition : Edition) (counts : Counts) (left : ℕ) (o : Option LoopTree) (extent : Extent)
    (l : List Lexeme)
    → IsLoop edition counts left o extent l → LoopEither edition counts left o extent l
loop_back edition counts left None extent l is = inr (refl, is)
loop_back edition counts left (Some p) extent l is = inl ((p.line, p.body), refl, is)

loop_reads : (edition : Edition) (counts : Counts) (left : ℕ)
    → Reads (λ o. IsLoop edition counts left o) (AWord keyword.Loop ∷ []) true
    (either_continues true (has_word keyword.Loop) never never) (loop_at edition counts left)
    (loop_at edition Unranged (suc left))
unfolding loop_at
loop_reads edition counts left =
    ruled_reads
    (either_reads (has_word keyword.Loop)
    (image_reads loop_text (then_reads (word_on_reads keyword.Loop) (block_reads edition counts left)))
    (nothing_reads None) (refl, tt) tt)
    (seen_by (λ o. o) (λ o. o) (loop_there edition counts left) (loop_back edition counts left) (λ o. refl))

head_reads : Reads (λ (h : HeadTree). IsHead h.line h.name h.node) (AWord keyword.Process ∷ []) false never head_at
    head_at
unfolding head_at
head_reads =
    as_reads head_made
    (then_reads (word_on_reads keyword.Process)
    (then_reads name_reads
    (then_reads (word_reads keyword.On) (then_reads number_reads (symbol_reads symbol.LeftBrace)))))
    (seen_by head_made (λ h. (h.line, (h.name, (tt, (h.node, tt))))) (λ x extent l is. is) (λ z extent l is. is)
    (λ z. refl))

parts_apart : (edition : Edition)
    → Tests (many_continues (has_word keyword.Var) never) false
    (statement_starts edition ++ AWord keyword.Loop ∷ ASymbol symbol.RightBrace ∷ [])
parts_apart First = (refl, (refl, (refl, (refl, (refl, (refl, tt))))))
parts_apart Second = (refl, (refl, (refl, (refl, (refl, (refl, (refl, tt)))))))

pub process_reads : (edition : Edition) (counts : Counts) (left : ℕ)
    → Reads (λ p. IsProcess edition counts left p) (AWord keyword.Process ∷ []) false never
    (process_at edition counts left)
    (process_at edition Unranged (suc left))
unfolding process_at
process_reads edition counts left =
    as_reads process_made
    (then_reads head_reads
    (pair_reads variables_reads
    (pair_reads (statements_reads edition counts left)
    (pair_reads (loop_reads edition counts left) (symbol_reads symbol.RightBrace) (refl, tt)) (loop_apart edition))
    (parts_apart edition)))
    (seen_by process_made
    (λ p. (record { line = p.line; name = p.name; node = p.node }, (p.variables, (p.prelude, (p.repeated, tt)))))
    (λ x extent l is. is) (λ z extent l is. is) (λ z. refl))

pub channel_parts : (role : Role) (z : ChannelText) (extent : Extent) (l : List Lexeme)
    → IsWhere (z.role ≡ role) (IsChannel z) extent l
    → (IsWordOn (first_word role) z.line >> IsName z.name >> IsSymbol symbol.Semicolon) extent l
channel_parts role z extent l is =
    subst (λ (r : Role). (IsWordOn (first_word r) z.line >> IsName z.name >> IsSymbol symbol.Semicolon) extent l) is.0
    is.1

channel_reads : (role : Role)
    → Reads (λ (c : ChannelText). IsWhere (c.role ≡ role) (IsChannel c)) (AWord (first_word role) ∷ []) false never
    (channel_at role) (channel_at role)
unfolding channel_at
channel_reads role =
    as_reads (channel_made role)
    (then_reads (word_on_reads (first_word role)) (then_reads name_reads (symbol_reads symbol.Semicolon)))
    (record {
      whole = λ x l is. (refl, is);
      begun = λ x l is. (channel_made role x, (refl, is));
      back = λ z l
          is. (
            (z.line, (z.name, tt)),
            ap (λ (r : Role). channel_made r (z.line, (z.name, tt))) is.0,
            channel_parts
                role z Whole l is,
          );
      back_begun = λ z l is. ((z.line, (z.name, tt)), channel_parts role z Begun l is);
    })

abbrev pub ChannelOf : Role → DeclarationTree → Rule
ChannelOf role = IsImage ChannelTree (λ c. IsWhere (c.role ≡ role) (IsChannel c))

abbrev pub DeclarationEither : Edition → Counts → ℕ → DeclarationTree → Rule
DeclarationEither edition counts left d =
    IsImage ProcessDeclared (λ p. IsProcess edition counts left p) d or ChannelOf Input d or ChannelOf Output d or
    ChannelOf
    Inner d

pub declaration_there : (edition : Edition) (counts : Counts) (left : ℕ) (d : DeclarationTree) (extent : Extent)
    (l : List Lexeme)
    → DeclarationEither edition counts left d extent l → IsDeclaration edition counts left d extent l
declaration_there edition counts left d extent l (inl is) =
    subst (λ (t : DeclarationTree). IsDeclaration edition counts left t extent l) (sym is.1) is.2
declaration_there edition counts left d extent l (inr (inl is)) =
    subst (λ (t : DeclarationTree). IsDeclaration edition counts left t extent l) (sym is.1) is.2.1
declaration_there edition counts left d extent l (inr (inr (inl is))) =
    subst (λ (t : DeclarationTree). IsDeclaration edition counts left t extent l) (sym is.1) is.2.1
declaration_there edition counts left d extent l (inr (inr (inr is))) =
    subst (λ (t : DeclarationTree). IsDeclaration edition counts left t extent l) (sym is.1) is.2.1

channel_back : (edition : Edition) (counts : Counts) (left : ℕ) (c : ChannelText) (role : Role) (extent : Extent)
    (l : List Lexeme) → c.role ≡ role
    → IsChannel c extent l → DeclarationEither edition counts left (ChannelTree c) extent l
channel_back edition counts left c Input extent l e is = inr (inl (c, refl, (e, is)))
channel_back edition counts left c Output extent l e is = inr (inr (inl (c, refl, (e, is))))
channel_back edition counts left c Inner extent l e is = inr (inr (inr (c, refl, (e, is))))

pub declaration_back : (edition : Edition) (counts : Counts) (left : ℕ) (d : DeclarationTree) (extent : Extent)
    (l : List Lexeme)
    → IsDeclaration edition counts left d extent l → DeclarationEither edition counts left d extent l
declaration_back edition counts left (ChannelTree c) extent l is =
    channel_back edition counts left c c.role extent l refl is
declaration_back edition counts left (ProcessDeclared p) extent l is = inl (p, refl, is)

abbrev declaration_starts : List Class
declaration_starts = AWord keyword.Process ∷ AWord keyword.Input ∷ AWord keyword.Output ∷ AWord keyword.Chan ∷ []

pub declaration_reads : (edition : Edition) (counts : Counts) (left : ℕ)
    → Reads (λ d. IsDeclaration edition counts left d) declaration_starts false never
    (declaration_at edition counts left)
    (declaration_at edition Unranged (suc left))
unfolding declaration_at
declaration_reads edition counts left =
    ruled_reads
    (either_reads (has_word keyword.Process) (image_reads ProcessDeclared (process_reads edition counts left))
    (either_reads (has_word keyword.Input) (image_reads ChannelTree (channel_reads Input))
    (either_reads (has_word keyword.Output) (image_reads ChannelTree (channel_reads Output))
    (image_reads ChannelTree (channel_reads Inner)) (refl, tt) (refl, tt)) (refl, tt) (refl, (refl, tt))) (refl, tt)
    (refl, (refl, (refl, tt))))
    (seen_by (λ d. d) (λ d. d) (declaration_there edition counts left) (declaration_back edition counts left)
    (λ d. refl))

-- ---- texts

abbrev pub text_more : TokenKind → Bool
text_more = many_continues starts_declaration never

declarations_reads : (edition : Edition) (counts : Counts) (left : ℕ)
    → Reads (λ ds. IsEach (IsDeclaration edition counts left) ds) declaration_starts true text_more
    (declarations_at edition counts left) (declarations_at edition Unranged (suc left))
unfolding declarations_at
declarations_reads edition counts left =
    each_reads starts_declaration (declaration_reads edition counts left) (refl, (refl, (refl, (refl, tt))))
    (refl, (refl, (refl, (refl, tt))))

edition_reads : (edition : Edition) (counts : Counts) (left : ℕ)
    → Reads (λ ds. IsEdition counts left ds edition) (AValue (edition_number edition) ∷ []) false text_more
    (edition_at edition counts left) (edition_at edition Unranged (suc left))
unfolding edition_at
edition_reads edition counts left =
    as_reads (λ x. x.1.1)
    (then_reads (edition_number_reads (edition_number edition))
    (then_reads (symbol_reads symbol.Semicolon) (declarations_reads edition counts left)))
    (seen_by (λ x. x.1.1) (λ z. (tt, (tt, z))) (λ x extent l is. is) (λ z extent l is. is) (λ z. refl))

pub text_reads : (counts : Counts) (left : ℕ)
    → Reads (λ ds. IsText counts left ds) (AWord keyword.Kahn ∷ []) false
    (pair_continues false never (either_continues false (has_number (edition_number First)) text_more text_more))
    (text_at counts left) (text_at Unranged (suc left))
unfolding text_at IsText
text_reads counts left =
    as_reads (λ x. x.1)
    (then_reads (word_reads keyword.Kahn)
    (either_reads (has_number (edition_number First)) (edition_reads First counts left)
    (edition_reads Second counts left) (refl, tt) (refl, tt)))
    (seen_by (λ x. x.1) (λ z. (tt, z)) (λ x extent l is. is) (λ z extent l is. is) (λ z. refl))

-- a whole text begins a longer one
next_one : Edition → Counts → ℕ → DeclarationTree
next_one edition counts left = (declaration_reads edition counts left).some

each_goes_on : (edition : Edition) (counts : Counts) (left : ℕ) (xs : List DeclarationTree) (l : List Lexeme)
    → IsEach (IsDeclaration edition counts left) xs Whole l
    → IsEach (IsDeclaration edition counts left) (xs ++ next_one edition counts left ∷ []) Begun l
unfolding next_one
each_goes_on edition counts left [] l none =
    inl (subst (λ (k : List Lexeme). IsDeclaration edition counts left (next_one edition counts left) Begun k)
    (sym none)
    (declaration_reads edition counts left).from_nothing)
each_goes_on edition counts left (x ∷ xs) l each =
    inr (each.0, each.1, each.2, each.3, each_goes_on edition counts left xs each.1 each.4)

edition_goes_on : (edition : Edition) (counts : Counts) (left : ℕ) (ds : List DeclarationTree) (l : List Lexeme)
    → IsEdition counts left ds edition Whole l
    → (more : List DeclarationTree) × IsEdition counts left more edition Begun l
edition_goes_on edition counts left ds l is = (
  ds ++ next_one edition counts left ∷ [],
  inr (
    is.0,
    is.1,
    is.2,
    is.3,
    inr (is.4.0, is.4.1, is.4.2, is.4.3, each_goes_on edition counts left ds is.4.1 is.4.4),
  ),
)

behind_goes_on : (counts : Counts) (left : ℕ) (ds : List DeclarationTree) (l : List Lexeme)
    → (IsEdition counts left ds First or IsEdition counts left ds Second) Whole l
    → (more : List DeclarationTree) × (IsEdition counts left more First or IsEdition counts left more Second) Begun l
behind_goes_on counts left ds l (inl is) = let on = edition_goes_on First counts left ds l is in (on.0, inl on.1)
behind_goes_on counts left ds l (inr is) = let on = edition_goes_on Second counts left ds l is in (on.0, inr on.1)

pub text_goes_on : (counts : Counts) (left : ℕ) (ds : List DeclarationTree) (ts : List Lexeme)
    → IsText counts left ds Whole ts → (more : List DeclarationTree) × IsText counts left more Begun ts
unfolding IsText
text_goes_on counts left ds ts is =
    let on = behind_goes_on counts left ds is.1 is.4 in (on.0, inr (is.0, is.1, is.2, is.3, on.1))
