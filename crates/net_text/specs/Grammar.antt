-- The grammar of a network's text, on tokens. What is written P >> Q is P's tokens and then Q's.
--
--     text    = "kahn" ( "1" | "2" ) ";" { decl }
--     decl    = "input" NAME ";" | "chan" NAME ";" | "output" NAME ";" | process
--     process = "process" NAME "on" NUMBER "{" { var } { stmt } [ "loop" block ] "}"
--     var     = "var" NAME [ "=" [ "-" ] NUMBER ] ";"
--     block   = "{" { stmt } "}"
--     stmt    = NAME "=" "get" NAME ";" | NAME "=" expr ";" | "put" expr "to" NAME ";"
--             | "stop" ";" | "if" expr block [ "else" block ] | "repeat" NUMBER block
--     expr    = sum [ ( "==" | "!=" | "<" | "<=" | ">" | ">=" ) sum ]
--     sum     = term { ( "+" | "-" ) term }
--     term    = factor { ( "*" | "div" | "mod" ) factor }
--     factor  = "-" factor | NUMBER | NAME | "(" expr ")"
--
-- The number is that of the edition. Repetitions, div and mod are the second edition's: a text of the first may use
-- none of the three words. A repetition's number is from 1 to 1000.
--
-- A rule says which tokens are a part of the text, whole, and which are the beginning of one: those that stand so far,
-- whatever may follow. A rule on which the editions differ takes the edition, one in which a repetition may stand takes
-- which numbers that may have, and one in which something may nest how many more may be opened: blocks, parentheses
-- and minus signs. The braces of a process and the minus of a variable's first value are none of these. A minus is open
-- through its factor.
use Rattle.std.specs.Prelude.{◌≡◌, ◌⊎◌, ℕ, zero, suc, ◌≤◌, List, [], ◌∷◌, ◌++◌, length, Option, Some, None, ℤ, pos}
use Rattle.std.specs.Prelude.{true}
use Rattle.std.specs.Prelude.{neg_ℤ}
use Rattle.net_text.specs.Names.{NameTree}
use Rattle.net_text.specs.Trees.{ExprTree, LiteralTree, VariableTree, MinusTree, ChainTree, LinkTree, links_tree}
use Rattle.net_text.specs.Trees.{BlockTree, NothingTree, GetTree, AssignTree, PutTree, StopTree, IfTree, RepeatTree}
use Rattle.net_text.specs.Trees.{LoopTree}
use Rattle.net_text.specs.Trees.{ProcessTree, DeclarationTree, ChannelTree, ProcessDeclared}
use Rattle.net_text.specs.Tokens.{Lexeme, AreTokens}
use Rattle.net_text.specs.Editions.{edition_number, has_this, Counts, Ranged, is_count}
use Rattle.net_text.specs.declared.edition.Edition.{Edition}
use Rattle.net_text.specs.declared.edition.Edition.TheVariants.{First, Second}
use Rattle.net_text.specs.declared.token.TokenKind.{TokenKind}
use Rattle.net_text.specs.declared.token.Keyword.{Keyword}
use Rattle.net_text.specs.declared.token.Keyword.TheVariants as keyword
use Rattle.net_text.specs.declared.token.Symbol.{Symbol}
use Rattle.net_text.specs.declared.token.Symbol.TheVariants as symbol
use Rattle.net_text.specs.declared.token.TokenKind.TheVariants as kind
use Rattle.kahn_net.specs.declared.program.Operator.{Operator}
use Rattle.kahn_net.specs.declared.program.Operator.TheVariants.{Add, Subtract, Multiply, Divide, Remainder, Equal}
use Rattle.kahn_net.specs.declared.program.Operator.TheVariants.{NotEqual, Less, LessOrEqual, Greater, GreaterOrEqual}
use Rattle.net_text.specs.declared.parser.Level.{Level}
use Rattle.net_text.specs.declared.parser.Level.TheVariants.{Product, Sum, Comparison}
use Rattle.net_text.specs.declared.tree.Role.{Role}
use Rattle.net_text.specs.declared.tree.Role.TheVariants.{Input, Inner, Output}
use Rattle.net_text.specs.declared.tree.ChannelText.{ChannelText}
use Rattle.net_text.specs.declared.tree.VariableText.{VariableText}
use Rattle.net_text.specs.declared.tree.NodeText.{NodeText}
use Rattle.net_text.specs.declared.limits.TheConstants.{MAX_TEXT_BYTES, MAX_NESTING}

-- ---- rules

pub data Extent : Type 0 where
  Whole : Extent
  Begun : Extent

abbrev pub Rule : Type 1
Rule = Extent → List Lexeme → Type 0

-- these tokens, cut at some place
abbrev pub IsCut : (List Lexeme → Type 0) → (List Lexeme → Type 0) → List Lexeme → Type 0
IsCut P Q ts = (front : List Lexeme) × (back : List Lexeme) × (ts ≡ front ++ back) × P front × Q back

-- One part, and then another. A beginning of both is one of the first, or the first one and a beginning of the second.
infixr 6 ◌>>◌
abbrev pub ◌>>◌ : Rule → Rule → Rule
(P >> Q) Whole ts = IsCut (P Whole) (Q Whole) ts
(P >> Q) Begun ts = P Begun ts ⊎ IsCut (P Whole) (Q Begun) ts

infixr 5 ◌or◌
abbrev pub ◌or◌ : Rule → Rule → Rule
(P or Q) extent ts = P extent ts ⊎ Q extent ts

-- a part for which a fact holds
abbrev pub IsWhere : Type 0 → Rule → Rule
IsWhere fact P extent ts = fact × P extent ts

abbrev pub IsNothing : Rule
IsNothing extent ts = ts ≡ []

-- What may not be opened any more is awaited at its place, and no tokens are one.
abbrev pub IsAwaited : Rule
IsAwaited Whole ts = ⊥
IsAwaited Begun ts = ts ≡ []

-- one token
abbrev pub IsOne : (Lexeme → Type 0) → Rule
IsOne Is Whole ts = (t : Lexeme) × (ts ≡ t ∷ []) × Is t
IsOne Is Begun ts = ts ≡ []

-- one after another
abbrev pub IsEach : {A : Type 0} → (A → Rule) → List A → Rule
IsEach P [] = IsNothing
IsEach P (x ∷ xs) = P x >> IsEach P xs

abbrev pub IsAtMostOne : {A : Type 0} → (A → Rule) → List A → Rule
IsAtMostOne P [] = IsNothing
IsAtMostOne P (x ∷ []) = P x
IsAtMostOne P (x ∷ y ∷ xs) = IsWhere ⊥ IsNothing

-- ---- tokens

-- this word, on this line
abbrev pub IsWordOn : Keyword → ℕ → Rule
IsWordOn w line = IsOne (λ t. (t.kind ≡ kind.Word w) × (line ≡ t.line))

abbrev pub IsWord : Keyword → Rule
IsWord w = IsOne (λ t. t.kind ≡ kind.Word w)

abbrev pub IsSymbol : Symbol → Rule
IsSymbol s = IsOne (λ t. t.kind ≡ kind.Symbol s)

abbrev pub IsName : NameTree → Rule
IsName name = IsOne (λ t. (t.kind ≡ kind.Name) × (name ≡ record { text = t.text; line = t.line }))

-- a number of this value, on this line
abbrev pub IsNumberOn : ℕ → ℕ → Rule
IsNumberOn n line = IsOne (λ t. (t.kind ≡ kind.Number n) × (line ≡ t.line))

abbrev pub IsNumber : ℕ → Rule
IsNumber n = IsOne (λ t. t.kind ≡ kind.Number n)

-- ---- operators

-- how an operator is written
abbrev pub operator_kind : Operator → TokenKind
operator_kind Add = kind.Symbol symbol.Plus
operator_kind Subtract = kind.Symbol symbol.Minus
operator_kind Multiply = kind.Symbol symbol.Star
operator_kind Divide = kind.Word keyword.Div
operator_kind Remainder = kind.Word keyword.Mod
operator_kind Equal = kind.Symbol symbol.Equal
operator_kind NotEqual = kind.Symbol symbol.NotEqual
operator_kind Less = kind.Symbol symbol.Less
operator_kind LessOrEqual = kind.Symbol symbol.LessOrEqual
operator_kind Greater = kind.Symbol symbol.Greater
operator_kind GreaterOrEqual = kind.Symbol symbol.GreaterOrEqual

-- how tightly an operator binds
abbrev pub level_of : Operator → Level
level_of Multiply = Product
level_of Divide = Product
level_of Remainder = Product
level_of Add = Sum
level_of Subtract = Sum
level_of Equal = Comparison
level_of NotEqual = Comparison
level_of Less = Comparison
level_of LessOrEqual = Comparison
level_of Greater = Comparison
level_of GreaterOrEqual = Comparison

-- an operator of this level that the edition has
abbrev pub IsOperator : Edition → Level → Operator → Rule
IsOperator edition level operator =
    IsOne
    (λ t. (t.kind ≡ operator_kind operator) × (level_of operator ≡ level) × (has_this operator edition ≡ true))

-- ---- expressions

-- a value with its links, which is the value itself where there are none
abbrev pub chain_of : ExprTree → List LinkTree → ExprTree
chain_of first [] = first
chain_of first (link ∷ links) = ChainTree first (links_tree (link ∷ links))

-- an operator and the value to its right
abbrev pub IsLink : Edition → Level → (ExprTree → Rule) → LinkTree → Rule
IsLink edition level P link = IsOperator edition level link.operator >> P link.value

-- values and operators of one level between them
abbrev pub IsChain : Edition → Level → (ExprTree → Rule) → ExprTree → Rule
IsChain edition level P e extent ts =
    (first : ExprTree) × (links : List LinkTree) × (e ≡ chain_of first links)
    × (P first >> IsEach (IsLink edition level P) links) extent ts

-- term = factor { ( "*" | "div" | "mod" ) factor }
abbrev pub IsTermOf : Edition → (ExprTree → Rule) → ExprTree → Rule
IsTermOf edition IsFactor = IsChain edition Product IsFactor

-- sum = term { ( "+" | "-" ) term }
abbrev pub IsSumOf : Edition → (ExprTree → Rule) → ExprTree → Rule
IsSumOf edition IsFactor = IsChain edition Sum (IsTermOf edition IsFactor)

-- expr = sum [ ( "==" | "!=" | "<" | "<=" | ">" | ">=" ) sum ]
abbrev pub IsExprOf : Edition → (ExprTree → Rule) → ExprTree → Rule
IsExprOf edition IsFactor e extent ts =
    (first : ExprTree) × (links : List LinkTree) × (e ≡ chain_of first links)
    × (IsSumOf edition IsFactor first >> IsAtMostOne (IsLink edition Comparison (IsSumOf edition IsFactor)) links)
    extent ts

-- NUMBER | NAME
abbrev pub IsLiteral : ExprTree → Rule
IsLiteral e extent ts = (n : ℕ) × (e ≡ LiteralTree (pos n)) × IsNumber n extent ts

abbrev pub IsUse : ExprTree → Rule
IsUse e extent ts = (name : NameTree) × (e ≡ VariableTree name) × IsName name extent ts

abbrev pub IsAtom : ExprTree → Rule
IsAtom e = IsLiteral e or IsUse e

-- "(" expr ")", in which the factors are these
abbrev pub IsParenthesised : Edition → (ExprTree → Rule) → ExprTree → Rule
IsParenthesised edition IsFactor e =
    IsSymbol symbol.LeftParenthesis >> IsExprOf edition IsFactor e >> IsSymbol symbol.RightParenthesis

-- "-" factor
abbrev pub IsMinus : (ExprTree → Rule) → ExprTree → Rule
IsMinus IsFactor e extent ts =
    (value : ExprTree) × (e ≡ MinusTree value) × (IsSymbol symbol.Minus >> IsFactor value) extent ts

-- factor = "-" factor | NUMBER | NAME | "(" expr ")"
unfoldable pub IsFactor : Edition → ℕ → ExprTree → Rule
IsFactor edition zero e = IsAtom e
IsFactor edition (suc left) e =
    IsParenthesised edition (IsFactor edition left) e or IsMinus (IsFactor edition left) e or IsAtom e

abbrev pub IsExpr : Edition → ℕ → ExprTree → Rule
IsExpr edition left = IsExprOf edition (IsFactor edition left)

-- ---- statements

-- block = "{" { stmt } "}", by its statements where so many more may be opened
abbrev pub IsBlockOf : ℕ → (ℕ → Rule) → Rule
IsBlockOf zero AreStatements = IsAwaited
IsBlockOf (suc left) AreStatements = IsSymbol symbol.LeftBrace >> AreStatements left >> IsSymbol symbol.RightBrace

-- NAME "=" "get" NAME ";"
abbrev pub IsGet : NameTree → NameTree → Rule
IsGet variable channel =
    IsName variable >> IsSymbol symbol.Assign >> IsWord keyword.Get >> IsName channel >> IsSymbol symbol.Semicolon

-- NAME "=" expr ";"
abbrev pub IsAssign : Edition → ℕ → NameTree → ExprTree → Rule
IsAssign edition left variable value =
    IsName variable >> IsSymbol symbol.Assign >> IsExpr edition left value >> IsSymbol symbol.Semicolon

-- "put" expr "to" NAME ";"
abbrev pub IsPut : Edition → ℕ → ExprTree → NameTree → Rule
IsPut edition left value channel =
    IsWord keyword.Put >> IsExpr edition left value >> IsWord keyword.To >> IsName channel >> IsSymbol symbol.Semicolon

-- "stop" ";"
abbrev pub IsStop : Rule
IsStop = IsWord keyword.Stop >> IsSymbol symbol.Semicolon

-- [ "else" block ], where no statements stand for nothing too
abbrev pub IsElse : BlockTree → Rule → Rule
IsElse second IsSecond = IsWord keyword.Else >> IsSecond or IsWhere (second ≡ NothingTree) IsNothing

-- "if" expr block [ "else" block ]
abbrev pub IsIf : Edition → ℕ → ExprTree → Rule → BlockTree → Rule → Rule
IsIf edition left test IsFirst second IsSecond =
    IsWord keyword.If >> IsExpr edition left test >> IsFirst >> IsElse second IsSecond

-- a repetition's number
abbrev pub IsCount : Counts → ℕ → Rule
IsCount counts n = IsOne (λ t. (t.kind ≡ kind.Number n) × (is_count counts n ≡ true))

-- "repeat" NUMBER block
abbrev pub IsRepeat : Edition → Counts → ℕ → ℕ → Rule → Rule
IsRepeat edition counts times line IsBody =
    IsWhere (edition ≡ Second) (IsWordOn keyword.Repeat line >> IsCount counts times >> IsBody)

-- { stmt }
unfoldable pub IsStatements : Edition → Counts → ℕ → BlockTree → Rule
IsStatements edition counts left NothingTree = IsNothing
IsStatements edition counts left (GetTree variable channel rest) =
    IsGet variable channel >> IsStatements edition counts left rest
IsStatements edition counts left (AssignTree variable value rest) =
    IsAssign edition left variable value >> IsStatements edition counts left rest
IsStatements edition counts left (PutTree value channel rest) =
    IsPut edition left value channel >> IsStatements edition counts left rest
IsStatements edition counts left (StopTree rest) = IsStop >> IsStatements edition counts left rest
IsStatements edition counts left (IfTree test first second rest) =
    IsIf edition left test (IsBlockOf left (λ inside. IsStatements edition counts inside first)) second
    (IsBlockOf left (λ inside. IsStatements edition counts inside second))
    >> IsStatements edition counts left rest
IsStatements edition counts left (RepeatTree times line body rest) =
    IsRepeat edition counts times line (IsBlockOf left (λ inside. IsStatements edition counts inside body)) >>
    IsStatements edition counts left rest

abbrev pub IsBlock : Edition → Counts → ℕ → BlockTree → Rule
IsBlock edition counts left block = IsBlockOf left (λ inside. IsStatements edition counts inside block)

-- ---- declarations

-- [ "-" ] NUMBER
abbrev pub IsPositive : ℤ → Rule
IsPositive v extent ts = (n : ℕ) × (v ≡ pos n) × IsNumber n extent ts

abbrev pub IsNegative : ℤ → Rule
IsNegative v extent ts = (n : ℕ) × (v ≡ neg_ℤ (pos n)) × (IsSymbol symbol.Minus >> IsNumber n) extent ts

-- [ "=" [ "-" ] NUMBER ], where 0 stands for nothing
abbrev pub IsInitial : ℤ → Rule
IsInitial v = IsSymbol symbol.Assign >> (IsNegative v or IsPositive v) or IsWhere (v ≡ pos 0) IsNothing

-- var = "var" NAME [ "=" [ "-" ] NUMBER ] ";"
abbrev pub IsVariable : VariableText → Rule
IsVariable v = IsWordOn keyword.Var v.line >> IsName v.name >> IsInitial v.initial >> IsSymbol symbol.Semicolon

-- [ "loop" block ]
abbrev pub IsLoop : Edition → Counts → ℕ → Option LoopTree → Rule
IsLoop edition counts left None = IsNothing
IsLoop edition counts left (Some l) = IsWordOn keyword.Loop l.line >> IsBlock edition counts left l.body

-- "process" NAME "on" NUMBER "{"
abbrev pub IsHead : ℕ → NameTree → NodeText → Rule
IsHead line name node =
    IsWordOn keyword.Process line >> IsName name >> IsWord keyword.On >> IsNumberOn node.number node.line >> IsSymbol
    symbol.LeftBrace

-- process = "process" NAME "on" NUMBER "{" { var } { stmt } [ "loop" block ] "}"
abbrev pub IsProcess : Edition → Counts → ℕ → ProcessTree → Rule
IsProcess edition counts left p =
    IsHead p.line p.name p.node
    >> IsEach IsVariable p.variables >> IsStatements edition counts left p.prelude >> IsLoop edition counts left
    p.repeated >>
    IsSymbol symbol.RightBrace

-- the declaration of a channel, by its first word
abbrev pub first_word : Role → Keyword
first_word Input = keyword.Input
first_word Inner = keyword.Chan
first_word Output = keyword.Output

abbrev pub IsChannel : ChannelText → Rule
IsChannel c = IsWordOn (first_word c.role) c.line >> IsName c.name >> IsSymbol symbol.Semicolon

-- decl = "input" NAME ";" | "chan" NAME ";" | "output" NAME ";" | process
abbrev pub IsDeclaration : Edition → Counts → ℕ → DeclarationTree → Rule
IsDeclaration edition counts left (ChannelTree c) = IsChannel c
IsDeclaration edition counts left (ProcessDeclared p) = IsProcess edition counts left p

-- NUMBER ";" { decl }, where the number is the edition's
abbrev pub IsEdition : Counts → ℕ → List DeclarationTree → Edition → Rule
IsEdition counts left declarations edition =
    IsNumber (edition_number edition) >> IsSymbol symbol.Semicolon >> IsEach (IsDeclaration edition counts left)
    declarations

-- text = "kahn" ( "1" | "2" ) ";" { decl }
unfoldable pub IsText : Counts → ℕ → List DeclarationTree → Rule
IsText counts left declarations =
    IsWord keyword.Kahn
    >> (IsEdition counts left declarations First or IsEdition counts left declarations Second)

-- a text is in the grammar of networks and has these declarations, with no more blocks, parentheses and minus signs
-- open at once than the limit says
pub record IsTextOf (declarations : List DeclarationTree) (text : List ℕ) : Type 0 where
  pub small : length text ≤ MAX_TEXT_BYTES
  pub tokens : List Lexeme
  pub read : AreTokens text tokens
  pub grammar : IsText Ranged MAX_NESTING declarations Whole tokens

-- with these tokens some text begins, whose repetitions have such numbers and in which no more are open so far than the
-- limit says
pub record Begins (counts : Counts) (limit : ℕ) (ts : List Lexeme) : Type 0 where
  pub declarations : List DeclarationTree
  pub begun : IsText counts limit declarations Begun ts

-- these tokens stand at the front of a whole text like that
pub record IsFront (counts : Counts) (limit : ℕ) (ts : List Lexeme) : Type 0 where
  pub declarations : List DeclarationTree
  pub more : List Lexeme
  pub whole : IsText counts limit declarations Whole (ts ++ more)
