-- Reading tokens from left to right, as the parser does: the value that is read and the tokens after it, or where the
-- tokens can't go on. The grammar itself stands in Grammar; these are its readers, which the parser's private functions
-- cite. Where something may nest they take how many more may be opened.
use Rattle.std.specs.Prelude.{◌≡◌, ◌⊎◌, ℕ, zero, suc, Bool, true, false, ◌||◌, if◌then◌else◌, ◌==◌, List, [], ◌∷◌}
use Rattle.std.specs.Prelude.{length, Option, Some, None, Result, Ok, Err, ℤ, pos, neg_ℤ}
use Rattle.std.proofs.Common.{inl, inr}
use Rattle.std.specs.Str.{bytes_eq}
use Rattle.net_text.specs.Names.{NameTree}
use Rattle.net_text.specs.Spellings.{keyword_spelling, symbol_spelling}
use Rattle.net_text.specs.Trees.{ExprTree, LiteralTree, VariableTree, MinusTree, LinkTree, BlockTree, NothingTree}
use Rattle.net_text.specs.Trees.{GetTree, AssignTree, PutTree, StopTree, IfTree, RepeatTree, LoopTree, ProcessTree}
use Rattle.net_text.specs.Trees.{DeclarationTree, ChannelTree, ProcessDeclared}
use Rattle.net_text.specs.Tokens.{Lexeme}
use Rattle.net_text.specs.Grammar.{chain_of, first_word, level_of}
use Rattle.net_text.specs.Editions.{edition_number, if_second, Counts, is_count}
use Rattle.net_text.specs.declared.edition.Edition.{Edition}
use Rattle.net_text.specs.declared.edition.Edition.TheVariants.{First, Second}
use Rattle.net_text.specs.declared.parser.Head.{Head}
use Rattle.net_text.specs.declared.parser.Level.{Level}
use Rattle.net_text.specs.declared.parser.Level.TheVariants.{Product, Sum, Comparison}
use Rattle.net_text.specs.declared.parser.Stuck.{Stuck}
use Rattle.net_text.specs.declared.parser.Stuck.TheVariants.{At, TooDeep, OutOfRange, AtEnd}
use Rattle.net_text.specs.declared.parser.ParseError.{ParseError}
use Rattle.net_text.specs.declared.parser.ParseError.TheVariants as error
use Rattle.net_text.specs.declared.fault.TextFault.{TextFault}
use Rattle.net_text.specs.declared.fault.TextFault.TheVariants.{Unexpected, NumberRange, TooLong}
use Rattle.net_text.specs.declared.lexer.End.{End}
use Rattle.net_text.specs.declared.lexer.End.TheVariants as end
use Rattle.net_text.specs.declared.token.Keyword.{Keyword}
use Rattle.net_text.specs.declared.token.Keyword.TheVariants as keyword
use Rattle.net_text.specs.declared.token.Symbol.{Symbol}
use Rattle.net_text.specs.declared.token.Symbol.TheVariants as symbol
use Rattle.net_text.specs.declared.token.TokenKind.{TokenKind}
use Rattle.net_text.specs.declared.token.TokenKind.TheVariants as kind
use Rattle.kahn_net.specs.declared.program.Operator.{Operator}
use Rattle.kahn_net.specs.declared.program.Operator.TheVariants.{Add, Subtract, Multiply, Divide, Remainder, Equal}
use Rattle.kahn_net.specs.declared.program.Operator.TheVariants.{NotEqual, Less, LessOrEqual, Greater, GreaterOrEqual}
use Rattle.net_text.specs.declared.tree.Role.{Role}
use Rattle.net_text.specs.declared.tree.Role.TheVariants.{Input, Inner, Output}
use Rattle.net_text.specs.declared.tree.ChannelText.{ChannelText}
use Rattle.net_text.specs.declared.tree.VariableText.{VariableText}
use Rattle.net_text.specs.declared.tree.NodeText.{NodeText}
use Rattle.net_text.specs.Results.{◌>>=◌}

abbrev pub Read : Type 0 → Type 0
Read A = Result (A × List Lexeme) Stuck

abbrev pub Reader : Type 0 → Type 0
Reader A = List Lexeme → Read A

-- A call that failed so did as its reader does, which is stuck there; for want of memory a reader is never stuck.
abbrev pub Fails : {Y : Type 0} → ParseError → Result Y Stuck → Type 0
Fails error.NoMemory read = Unit {0}
Fails (error.Stuck stuck) read = read ≡ Err stuck

abbrev pub Gives : {X Y : Type 0} → (X → Y) → Result X ParseError → Result Y Stuck → Type 0
Gives view (Ok x) read = read ≡ Ok (view x)
Gives view (Err e) read = Fails e read

-- ---- tests of a token's kind

abbrev pub has_word : Keyword → TokenKind → Bool
has_word w (kind.Word v) = bytes_eq (keyword_spelling v) (keyword_spelling w)
has_word w (kind.Symbol s) = false
has_word w (kind.Number n) = false
has_word w kind.Name = false

abbrev pub has_symbol : Symbol → TokenKind → Bool
has_symbol s (kind.Symbol t) = bytes_eq (symbol_spelling t) (symbol_spelling s)
has_symbol s (kind.Word w) = false
has_symbol s (kind.Number n) = false
has_symbol s kind.Name = false

abbrev pub is_name : TokenKind → Bool
is_name kind.Name = true
is_name (kind.Symbol s) = false
is_name (kind.Word w) = false
is_name (kind.Number n) = false

-- the operator that a symbol is
abbrev pub operator_of : Symbol → Option Operator
operator_of symbol.Plus = Some Add
operator_of symbol.Minus = Some Subtract
operator_of symbol.Star = Some Multiply
operator_of symbol.Equal = Some Equal
operator_of symbol.NotEqual = Some NotEqual
operator_of symbol.Less = Some Less
operator_of symbol.LessOrEqual = Some LessOrEqual
operator_of symbol.Greater = Some Greater
operator_of symbol.GreaterOrEqual = Some GreaterOrEqual
operator_of symbol.Semicolon = None
operator_of symbol.LeftBrace = None
operator_of symbol.RightBrace = None
operator_of symbol.LeftParenthesis = None
operator_of symbol.RightParenthesis = None
operator_of symbol.Assign = None

-- the operator that a word is
abbrev pub word_operator : Keyword → Edition → Option Operator
word_operator keyword.Div edition = if_second edition Divide
word_operator keyword.Mod edition = if_second edition Remainder
word_operator keyword.Kahn edition = None
word_operator keyword.Input edition = None
word_operator keyword.Chan edition = None
word_operator keyword.Output edition = None
word_operator keyword.Process edition = None
word_operator keyword.On edition = None
word_operator keyword.Var edition = None
word_operator keyword.Loop edition = None
word_operator keyword.Get edition = None
word_operator keyword.Put edition = None
word_operator keyword.To edition = None
word_operator keyword.If edition = None
word_operator keyword.Else edition = None
word_operator keyword.Stop edition = None
word_operator keyword.Repeat edition = None

-- the operator that a token is
abbrev pub any_operator : Edition → TokenKind → Option Operator
any_operator edition (kind.Symbol s) = operator_of s
any_operator edition (kind.Word w) = word_operator w edition
any_operator edition (kind.Number n) = None
any_operator edition kind.Name = None

abbrev pub is_level : Level → Level → Bool
is_level Product Product = true
is_level Product Sum = false
is_level Product Comparison = false
is_level Sum Product = false
is_level Sum Sum = true
is_level Sum Comparison = false
is_level Comparison Product = false
is_level Comparison Sum = false
is_level Comparison Comparison = true

abbrev pub if_level : Level → Option Operator → Option Operator
if_level level None = None
if_level level (Some operator) = if is_level (level_of operator) level then Some operator else None

-- the operator of this level that a token is
abbrev pub operator_in : Edition → Level → TokenKind → Option Operator
operator_in edition level k = if_level level (any_operator edition k)

abbrev pub is_operator : Option Operator → Bool
is_operator None = false
is_operator (Some operator) = true

abbrev pub has_operator : Edition → Level → TokenKind → Bool
has_operator edition level k = is_operator (operator_in edition level k)

-- this number
abbrev pub has_number : ℕ → TokenKind → Bool
has_number n (kind.Number m) = m == n
has_number n (kind.Word w) = false
has_number n (kind.Symbol s) = false
has_number n kind.Name = false

-- the first token passes a test
abbrev pub begins : (TokenKind → Bool) → List Lexeme → Bool
begins test [] = false
begins test (t ∷ ts) = test t.kind

-- ---- readers made of others

-- one, and then the other
abbrev pub pair_at : {A B : Type 0} → Reader A → Reader B → Reader (A × B)
pair_at first second ts = first ts >>= λ a. second a.1 >>= λ b. Ok ((a.0, b.0), b.1)

-- what is read, seen so
abbrev pub as_at : {A B : Type 0} → (A → B) → Reader A → Reader B
as_at view reader ts = reader ts >>= λ x. Ok (view x.0, x.1)

-- one where the first token passes a test, and else the other
abbrev pub either_at : {A : Type 0} → (TokenKind → Bool) → Reader A → Reader A → Reader A
either_at test first second ts = if begins test ts then first ts else second ts

abbrev pub nothing_at : {A : Type 0} → A → Reader A
nothing_at x ts = Ok (x, ts)

-- one after another, as long as the next begins; so many at the most
abbrev pub many : {A : Type 0} → (TokenKind → Bool) → Reader A → ℕ → Reader (List A)
many starts item zero ts = Ok ([], ts)
many starts item (suc n) ts =
    if begins starts ts then
    (item ts >>= λ first. many starts item n first.1 >>= λ others. Ok (first.0 ∷ others.0, others.1)) else Ok ([], ts)

abbrev pub each_at : {A : Type 0} → (TokenKind → Bool) → Reader A → Reader (List A)
each_at starts item ts = many starts item (length ts) ts

abbrev pub at_most_one_at : {A : Type 0} → (TokenKind → Bool) → Reader A → Reader (List A)
at_most_one_at starts item = either_at starts (as_at (λ x. x ∷ []) item) (nothing_at [])

-- ---- single tokens

-- a word, by its line
unfoldable pub word_on_at : Keyword → Reader ℕ
word_on_at w [] = Err AtEnd
word_on_at w (t ∷ ts) = if has_word w t.kind then Ok (t.line, ts) else Err (At t.line)

unfoldable pub word_at : Keyword → Reader (Unit {0})
word_at w [] = Err AtEnd
word_at w (t ∷ ts) = if has_word w t.kind then Ok (tt, ts) else Err (At t.line)

unfoldable pub symbol_at : Symbol → Reader (Unit {0})
symbol_at s [] = Err AtEnd
symbol_at s (t ∷ ts) = if has_symbol s t.kind then Ok (tt, ts) else Err (At t.line)

unfoldable pub name_at : Reader NameTree
name_at [] = Err AtEnd
name_at (t ∷ ts) = if is_name t.kind then Ok (record { text = t.text; line = t.line }, ts) else Err (At t.line)

-- a number, with its line
abbrev pub number_in : TokenKind → ℕ → Reader NodeText
number_in (kind.Number n) line ts = Ok (record { number = n; line = line }, ts)
number_in (kind.Word w) line ts = Err (At line)
number_in (kind.Symbol s) line ts = Err (At line)
number_in kind.Name line ts = Err (At line)

unfoldable pub number_at : Reader NodeText
number_at [] = Err AtEnd
number_at (t ∷ ts) = number_in t.kind t.line ts

abbrev pub picked : Option Operator → ℕ → Reader Operator
picked (Some operator) line ts = Ok (operator, ts)
picked None line ts = Err (At line)

-- an operator of this level
unfoldable pub operator_at : Edition → Level → Reader Operator
operator_at edition level [] = Err AtEnd
operator_at edition level (t ∷ ts) = picked (operator_in edition level t.kind) t.line ts

-- the number of a repetition
abbrev pub count_in : Counts → TokenKind → ℕ → Reader ℕ
count_in counts (kind.Number n) line ts = if is_count counts n then Ok (n, ts) else Err (OutOfRange line)
count_in counts (kind.Word w) line ts = Err (At line)
count_in counts (kind.Symbol s) line ts = Err (At line)
count_in counts kind.Name line ts = Err (At line)

unfoldable pub count_at : Counts → Reader ℕ
count_at counts [] = Err AtEnd
count_at counts (t ∷ ts) = count_in counts t.kind t.line ts

-- a symbol that opens what may not be opened any more
unfoldable pub unopened_at : {A : Type 0} → Symbol → Reader A
unopened_at s [] = Err AtEnd
unopened_at s (t ∷ ts) = if has_symbol s t.kind then Err (TooDeep t.line) else Err (At t.line)

-- a symbol that opens what may nest
abbrev pub opening_at : Symbol → ℕ → Reader (Unit {0})
opening_at s zero = unopened_at s
opening_at s (suc left) = symbol_at s

-- ---- expressions

abbrev pub atom_in : TokenKind → Lexeme → Reader ExprTree
atom_in (kind.Number n) t ts = Ok (LiteralTree (pos n), ts)
atom_in kind.Name t ts = Ok (VariableTree (record { text = t.text; line = t.line }), ts)
atom_in (kind.Word w) t ts = Err (At t.line)
atom_in (kind.Symbol s) t ts = Err (At t.line)

-- a number or a name
unfoldable pub atom_at : Reader ExprTree
atom_at [] = Err AtEnd
atom_at (t ∷ ts) = atom_in t.kind t ts

-- an operator and the value to its right
abbrev pub link_of : Edition → Level → Reader ExprTree → Reader LinkTree
link_of edition level value =
    as_at (λ x. record { operator = x.0; value = x.1 }) (pair_at (operator_at edition level) value)

abbrev pub links_of : Edition → Level → Reader ExprTree → Reader (List LinkTree)
links_of edition level value = each_at (has_operator edition level) (link_of edition level value)

-- values and operators of one level between them
abbrev pub chain_at : Edition → Level → Reader ExprTree → Reader ExprTree
chain_at edition level value = as_at (λ x. chain_of x.0 x.1) (pair_at value (links_of edition level value))

-- the values that operators of a level join, by the factors that they are made of
abbrev pub operand_of : Edition → Reader ExprTree → Level → Reader ExprTree
operand_of edition factor Product = factor
operand_of edition factor Sum = chain_at edition Product factor
operand_of edition factor Comparison = chain_at edition Sum (chain_at edition Product factor)

-- an expression, by its factors
abbrev pub expr_of : Edition → Reader ExprTree → Reader ExprTree
expr_of edition factor =
    as_at (λ x. chain_of x.0 x.1)
    (pair_at (operand_of edition factor Comparison)
    (at_most_one_at (has_operator edition Comparison)
    (link_of edition Comparison (operand_of edition factor Comparison))))

abbrev pub parenthesised_of : Edition → Reader ExprTree → Reader ExprTree
parenthesised_of edition factor =
    as_at (λ x. x.1.0)
    (pair_at (symbol_at symbol.LeftParenthesis) (pair_at (expr_of edition factor) (symbol_at symbol.RightParenthesis)))

abbrev pub minus_of : Reader ExprTree → Reader ExprTree
minus_of factor = as_at (λ x. MinusTree x.1) (pair_at (symbol_at symbol.Minus) factor)

-- a factor, by what it is behind a ( and behind a -
abbrev pub factor_of : Reader ExprTree → Reader ExprTree → Reader ExprTree
factor_of parenthesised minus =
    either_at (has_symbol symbol.LeftParenthesis) parenthesised (either_at (has_symbol symbol.Minus) minus atom_at)

unfoldable pub factor_at : Edition → ℕ → Reader ExprTree
factor_at edition zero = factor_of (unopened_at symbol.LeftParenthesis) (unopened_at symbol.Minus)
factor_at edition (suc left) =
    factor_of (parenthesised_of edition (factor_at edition left)) (minus_of (factor_at edition left))

unfoldable pub parenthesised_at : Edition → ℕ → Reader ExprTree
parenthesised_at edition zero = unopened_at symbol.LeftParenthesis
parenthesised_at edition (suc left) = parenthesised_of edition (factor_at edition left)

unfoldable pub minus_at : Edition → ℕ → Reader ExprTree
minus_at edition zero = unopened_at symbol.Minus
minus_at edition (suc left) = minus_of (factor_at edition left)

unfoldable pub link_at : Edition → Level → ℕ → Reader LinkTree
link_at edition level left = link_of edition level (operand_of edition (factor_at edition left) level)

unfoldable pub links_at : Edition → Level → ℕ → Reader (List LinkTree)
links_at edition level left = each_at (has_operator edition level) (link_at edition level left)

unfoldable pub operand_at : Edition → Level → ℕ → Reader ExprTree
operand_at edition level left = operand_of edition (factor_at edition left) level

unfoldable pub expr_at : Edition → ℕ → Reader ExprTree
expr_at edition left = expr_of edition (factor_at edition left)

-- ---- statements, each as a block of one

-- the channel of a get, past the =
unfoldable pub got_at : Reader NameTree
got_at = as_at (λ x. x.1.0) (pair_at (word_at keyword.Get) (pair_at name_at (symbol_at symbol.Semicolon)))

-- the value of an assignment, past the =
unfoldable pub assigned_at : Edition → ℕ → Reader ExprTree
assigned_at edition left = as_at (λ x. x.0) (pair_at (expr_at edition left) (symbol_at symbol.Semicolon))

abbrev pub named_tree : NameTree → NameTree ⊎ ExprTree → BlockTree
named_tree variable (inl channel) = GetTree variable channel NothingTree
named_tree variable (inr value) = AssignTree variable value NothingTree

-- a statement that begins with a name
unfoldable pub named_at : Edition → ℕ → Reader BlockTree
named_at edition left =
    as_at (λ x. named_tree x.0 x.1.1)
    (pair_at name_at
    (pair_at (symbol_at symbol.Assign)
    (either_at (has_word keyword.Get) (as_at inl got_at) (as_at inr (assigned_at edition left)))))

unfoldable pub put_at : Edition → ℕ → Reader BlockTree
put_at edition left =
    as_at (λ x. PutTree x.1.0 x.1.1.1.0 NothingTree)
    (pair_at (word_at keyword.Put)
    (pair_at (expr_at edition left) (pair_at (word_at keyword.To) (pair_at name_at (symbol_at symbol.Semicolon)))))

unfoldable pub stop_at : Reader BlockTree
stop_at = as_at (λ x. StopTree NothingTree) (pair_at (word_at keyword.Stop) (symbol_at symbol.Semicolon))

-- what stands behind else, by the reader of a block
abbrev pub else_of : Reader BlockTree → Reader BlockTree
else_of block =
    either_at (has_word keyword.Else) (as_at (λ x. x.1) (pair_at (word_at keyword.Else) block)) (nothing_at NothingTree)

abbrev pub if_of : Reader ExprTree → Reader BlockTree → Reader BlockTree
if_of test block =
    as_at (λ x. IfTree x.1.0 x.1.1.0 x.1.1.1 NothingTree)
    (pair_at (word_at keyword.If) (pair_at test (pair_at block (else_of block))))

-- a repetition, by the reader of a block
abbrev pub repeat_of : Counts → Reader BlockTree → Reader BlockTree
repeat_of counts block =
    as_at (λ x. RepeatTree x.1.0 x.0 x.1.1 NothingTree)
    (pair_at (word_on_at keyword.Repeat) (pair_at (count_at counts) block))

-- a statement with blocks, by what it is behind if and behind repeat
abbrev pub nested_of : Edition → Reader BlockTree → Reader BlockTree → Reader BlockTree
nested_of First repeated conditional = conditional
nested_of Second repeated conditional = either_at (has_word keyword.Repeat) repeated conditional

-- a statement, by the reader of a block, where so many more may be opened
abbrev pub statement_of : Edition → Counts → ℕ → Reader BlockTree → Reader BlockTree
statement_of edition counts left block =
    either_at is_name (named_at edition left)
    (either_at (has_word keyword.Put) (put_at edition left)
    (either_at (has_word keyword.Stop) stop_at
    (nested_of edition (repeat_of counts block) (if_of (expr_at edition left) block))))

abbrev pub starts_nested : Edition → TokenKind → Bool
starts_nested First k = has_word keyword.If k
starts_nested Second k = has_word keyword.Repeat k || has_word keyword.If k

abbrev pub starts_statement : Edition → TokenKind → Bool
starts_statement edition k =
    is_name k || (has_word keyword.Put k || (has_word keyword.Stop k || starts_nested edition k))

-- these statements, and then those
abbrev pub append_block : BlockTree → BlockTree → BlockTree
append_block NothingTree more = more
append_block (GetTree variable channel rest) more = GetTree variable channel (append_block rest more)
append_block (AssignTree variable value rest) more = AssignTree variable value (append_block rest more)
append_block (PutTree value channel rest) more = PutTree value channel (append_block rest more)
append_block (StopTree rest) more = StopTree (append_block rest more)
append_block (IfTree test first second rest) more = IfTree test first second (append_block rest more)
append_block (RepeatTree times line body rest) more = RepeatTree times line body (append_block rest more)

abbrev pub joined : List BlockTree → BlockTree
joined [] = NothingTree
joined (block ∷ blocks) = append_block block (joined blocks)

abbrev pub statements_of : Edition → Reader BlockTree → Reader BlockTree
statements_of edition statement = as_at joined (each_at (starts_statement edition) statement)

abbrev pub braced_of : Reader BlockTree → Reader BlockTree
braced_of statements =
    as_at (λ x. x.1.0) (pair_at (symbol_at symbol.LeftBrace) (pair_at statements (symbol_at symbol.RightBrace)))

unfoldable pub block_at : Edition → Counts → ℕ → Reader BlockTree
block_at edition counts zero = unopened_at symbol.LeftBrace
block_at edition counts (suc left) =
    braced_of (statements_of edition (statement_of edition counts left (block_at edition counts left)))

unfoldable pub else_at : Edition → Counts → ℕ → Reader BlockTree
else_at edition counts left = else_of (block_at edition counts left)

unfoldable pub if_at : Edition → Counts → ℕ → Reader BlockTree
if_at edition counts left = if_of (expr_at edition left) (block_at edition counts left)

unfoldable pub repeat_at : Edition → Counts → ℕ → Reader BlockTree
repeat_at edition counts left = repeat_of counts (block_at edition counts left)

unfoldable pub nested_at : Edition → Counts → ℕ → Reader BlockTree
nested_at edition counts left = nested_of edition (repeat_at edition counts left) (if_at edition counts left)

unfoldable pub statement_at : Edition → Counts → ℕ → Reader BlockTree
statement_at edition counts left = statement_of edition counts left (block_at edition counts left)

unfoldable pub statements_at : Edition → Counts → ℕ → Reader BlockTree
statements_at edition counts left = statements_of edition (statement_at edition counts left)

-- ---- declarations

-- a number, wherever it stands
abbrev pub amount_at : Reader ℕ
amount_at = as_at (λ n. n.number) number_at

-- what follows the = of a variable's first value
unfoldable pub value_at : Reader ℤ
value_at =
    either_at (has_symbol symbol.Minus) (as_at (λ x. neg_ℤ (pos x.1)) (pair_at (symbol_at symbol.Minus) amount_at))
    (as_at pos amount_at)

unfoldable pub initial_at : Reader ℤ
initial_at =
    either_at (has_symbol symbol.Assign) (as_at (λ x. x.1) (pair_at (symbol_at symbol.Assign) value_at))
    (nothing_at (pos 0))

abbrev pub variable_tree : ℕ × (NameTree × (ℤ × Unit {0})) → VariableText
variable_tree x = record { name = x.1.0; initial = x.1.1.0; line = x.0 }

unfoldable pub variable_at : Reader VariableText
variable_at =
    as_at variable_tree
    (pair_at (word_on_at keyword.Var) (pair_at name_at (pair_at initial_at (symbol_at symbol.Semicolon))))

unfoldable pub variables_at : Reader (List VariableText)
variables_at = each_at (has_word keyword.Var) variable_at

abbrev pub loop_text : ℕ × BlockTree → Option LoopTree
loop_text x = Some (record { body = x.1; line = x.0 })

unfoldable pub loop_at : Edition → Counts → ℕ → Reader (Option LoopTree)
loop_at edition counts left =
    either_at (has_word keyword.Loop)
    (as_at loop_text (pair_at (word_on_at keyword.Loop) (block_at edition counts left)))
    (nothing_at None)

-- the head of a process: its line, its name and its node, up to the brace
pub record HeadTree : Type 0 where
  pub line : ℕ
  pub name : NameTree
  pub node : NodeText

abbrev pub head_tree : Head → HeadTree
head_tree h = record { line = h.line; name = h.name; node = h.node }

abbrev pub head_made : ℕ × (NameTree × (Unit {0} × (NodeText × Unit {0}))) → HeadTree
head_made x = record { line = x.0; name = x.1.0; node = x.1.1.1.0 }

unfoldable pub head_at : Reader HeadTree
head_at =
    as_at head_made
    (pair_at (word_on_at keyword.Process)
    (pair_at name_at (pair_at (word_at keyword.On) (pair_at number_at (symbol_at symbol.LeftBrace)))))

abbrev pub process_made : HeadTree × (List VariableText × (BlockTree × (Option LoopTree × Unit {0}))) → ProcessTree
process_made x =
    record {
      name = x.0.name;
      node = x.0.node;
      variables = x.1.0;
      prelude = x.1.1.0;
      repeated = x.1.1.1.0;
      line =
          x.0.line;
    }

unfoldable pub process_at : Edition → Counts → ℕ → Reader ProcessTree
process_at edition counts left =
    as_at process_made
    (pair_at head_at
    (pair_at variables_at
    (pair_at (statements_at edition counts left)
    (pair_at (loop_at edition counts left) (symbol_at symbol.RightBrace)))))

abbrev pub channel_made : Role → ℕ × (NameTree × Unit {0}) → ChannelText
channel_made role x = record { role = role; name = x.1.0; line = x.0 }

unfoldable pub channel_at : Role → Reader ChannelText
channel_at role =
    as_at (channel_made role) (pair_at (word_on_at (first_word role)) (pair_at name_at (symbol_at symbol.Semicolon)))

unfoldable pub declaration_at : Edition → Counts → ℕ → Reader DeclarationTree
declaration_at edition counts left =
    either_at (has_word keyword.Process) (as_at ProcessDeclared (process_at edition counts left))
    (either_at (has_word keyword.Input) (as_at ChannelTree (channel_at Input))
    (either_at (has_word keyword.Output) (as_at ChannelTree (channel_at Output))
    (as_at ChannelTree (channel_at Inner))))

abbrev pub starts_declaration : TokenKind → Bool
starts_declaration k =
    has_word keyword.Process k || (has_word keyword.Input k || (has_word keyword.Output k || has_word keyword.Chan k))

unfoldable pub declarations_at : Edition → Counts → ℕ → Reader (List DeclarationTree)
declarations_at edition counts left = each_at starts_declaration (declaration_at edition counts left)

-- the number of an edition: a number of this value
abbrev pub if_edition : ℕ → NodeText → Reader (Unit {0})
if_edition edition number ts = if number.number == edition then Ok (tt, ts) else Err (At number.line)

unfoldable pub edition_number_at : ℕ → Reader (Unit {0})
edition_number_at edition ts = number_at ts >>= λ number. if_edition edition number.0 number.1

-- what stands behind the first word of a text
unfoldable pub edition_at : Edition → Counts → ℕ → Reader (List DeclarationTree)
edition_at edition counts left =
    as_at (λ x. x.1.1)
    (pair_at (edition_number_at (edition_number edition))
    (pair_at (symbol_at symbol.Semicolon) (declarations_at edition counts left)))

-- the first edition where its number stands there, and else the second
unfoldable pub text_at : Counts → ℕ → Reader (List DeclarationTree)
text_at counts left =
    as_at (λ x. x.1)
    (pair_at (word_at keyword.Kahn)
    (either_at (has_number (edition_number First)) (edition_at First counts left) (edition_at Second counts left)))

-- all of the tokens
abbrev pub no_more : List DeclarationTree → List Lexeme → Result (List DeclarationTree) Stuck
no_more tree [] = Ok tree
no_more tree (t ∷ ts) = Err (At t.line)

unfoldable pub whole_text : Counts → ℕ → List Lexeme → Result (List DeclarationTree) Stuck
whole_text counts left ts = text_at counts left ts >>= λ text. no_more text.0 text.1

-- the fault of a text whose tokens, which end so, are stuck there
abbrev pub fault_at : Stuck → End → TextFault
fault_at (At line) stop = Unexpected line
fault_at (TooDeep line) stop = TooLong line
fault_at (OutOfRange line) stop = NumberRange line
fault_at AtEnd (end.Text line) = Unexpected line
fault_at AtEnd (end.Bad fault) = fault
