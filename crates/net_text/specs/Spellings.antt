-- How tokens are spelled.
use Rattle.std.specs.Prelude.{◌≡◌, ◌≢◌, ◌⊎◌, ℕ, ◌<◌, ◌≤◌, Bool, true, false, ◌&&◌, ◌||◌, ◌==◌, List, [], ◌∷◌, length}
use Rattle.std.specs.Prelude.{take, IsTrue, codes, nat_lt, ◌^◌}
use Rattle.std.specs.List.{list_all}
use Rattle.std.specs.Char.{is_ascii_alphabetic, is_ascii_digit}
use Rattle.net_text.specs.Numbers.{is_numeral, numeral_value, IsInRange}
use Rattle.net_text.specs.declared.fault.TextFault.{TextFault}
use Rattle.net_text.specs.declared.fault.TextFault.TheVariants.{NoMemory, BadToken, Unexpected, NumberRange, TooLong}
use Rattle.net_text.specs.declared.token.Keyword.{Keyword}
use Rattle.net_text.specs.declared.token.Keyword.TheVariants as keyword
use Rattle.net_text.specs.declared.token.Symbol.{Symbol}
use Rattle.net_text.specs.declared.token.Symbol.TheVariants as symbol
use Rattle.net_text.specs.declared.token.TokenKind.{TokenKind}
use Rattle.net_text.specs.declared.lexer.Shape.{Shape}
use Rattle.net_text.specs.declared.lexer.Shape.TheVariants as shape
use Rattle.net_text.specs.declared.token.TokenKind.TheVariants as kind
use Rattle.net_text.specs.declared.limits.TheConstants.{MAX_NAME_BYTES}

abbrev pub keyword_spelling : Keyword → List ℕ
keyword_spelling keyword.Kahn = codes "kahn"
keyword_spelling keyword.Input = codes "input"
keyword_spelling keyword.Chan = codes "chan"
keyword_spelling keyword.Output = codes "output"
keyword_spelling keyword.Process = codes "process"
keyword_spelling keyword.On = codes "on"
keyword_spelling keyword.Var = codes "var"
keyword_spelling keyword.Loop = codes "loop"
keyword_spelling keyword.Get = codes "get"
keyword_spelling keyword.Put = codes "put"
keyword_spelling keyword.To = codes "to"
keyword_spelling keyword.If = codes "if"
keyword_spelling keyword.Else = codes "else"
keyword_spelling keyword.Stop = codes "stop"
keyword_spelling keyword.Repeat = codes "repeat"
keyword_spelling keyword.Div = codes "div"
keyword_spelling keyword.Mod = codes "mod"

abbrev pub symbol_spelling : Symbol → List ℕ
symbol_spelling symbol.Semicolon = codes ";"
symbol_spelling symbol.LeftBrace = codes "{"
symbol_spelling symbol.RightBrace = codes "}"
symbol_spelling symbol.LeftParenthesis = codes "("
symbol_spelling symbol.RightParenthesis = codes ")"
symbol_spelling symbol.Assign = codes "="
symbol_spelling symbol.Equal = codes "=="
symbol_spelling symbol.NotEqual = codes "!="
symbol_spelling symbol.Less = codes "<"
symbol_spelling symbol.LessOrEqual = codes "<="
symbol_spelling symbol.Greater = codes ">"
symbol_spelling symbol.GreaterOrEqual = codes ">="
symbol_spelling symbol.Plus = codes "+"
symbol_spelling symbol.Minus = codes "-"
symbol_spelling symbol.Star = codes "*"

-- a letter or _
abbrev pub starts_word : ℕ → Bool
starts_word b = is_ascii_alphabetic b || (b == 95)

-- a letter, a digit or _
abbrev pub continues_word : ℕ → Bool
continues_word b = starts_word b || is_ascii_digit b

-- a letter or _, then letters, digits and _: a name or a keyword
abbrev pub is_word : List ℕ → Bool
is_word [] = false
is_word (b ∷ bs) = starts_word b && list_all continues_word bs

-- what a token may look like, names and numbers past their limits among them
abbrev pub IsLexeme : List ℕ → Type 0
IsLexeme bytes = IsTrue (is_word bytes) ⊎ (IsTrue (is_numeral bytes) ⊎ ((s : Symbol) × (bytes ≡ symbol_spelling s)))

-- the longest front of these bytes that a token may look like
pub record IsLongest (front bytes : List ℕ) : Type 0 where
  pub lexeme : IsLexeme front
  pub front_of : front ≡ take (length front) bytes
  pub longest : (n : ℕ) → n ≤ length bytes → IsLexeme (take n bytes) → n ≤ length front

-- a number fits the signed 64 bits
abbrev pub is_kept : TokenKind → Bool
is_kept (kind.Number n) = nat_lt n (2 ^ 63)
is_kept kind.Name = true
is_kept (kind.Word w) = true
is_kept (kind.Symbol s) = true

-- These bytes are a token of this kind. A name has at most 64 bytes, a number fits the signed 64 bits.
abbrev pub Spells : TokenKind → List ℕ → Type 0
Spells kind.Name bytes =
    IsTrue (is_word bytes) × ((w : Keyword) → bytes ≢ keyword_spelling w) × (length bytes ≤ MAX_NAME_BYTES)
Spells (kind.Number n) bytes = IsTrue (is_numeral bytes) × (n ≡ numeral_value bytes) × IsInRange n
Spells (kind.Word w) bytes = bytes ≡ keyword_spelling w
Spells (kind.Symbol s) bytes = bytes ≡ symbol_spelling s

-- the front of this length is this symbol, and no longer front is one
pub record IsLongestSymbol (s : Symbol) (len : ℕ) (bytes : List ℕ) : Type 0 where
  pub within : len ≤ length bytes
  pub spelled : take len bytes ≡ symbol_spelling s
  pub longest : (t : Symbol) (n : ℕ) → n ≤ length bytes → take n bytes ≡ symbol_spelling t → n ≤ len

-- a lexeme's shape says which of the three it is
abbrev pub IsShape : Shape → List ℕ → Type 0
IsShape shape.Word bytes = IsTrue (is_word bytes)
IsShape shape.Numeral bytes = IsTrue (is_numeral bytes)
IsShape (shape.Symbol s) bytes = bytes ≡ symbol_spelling s

-- why a lexeme on this line is no token: its number is too large, or its name too long
abbrev pub IsPastLimit : List ℕ → ℕ → TextFault → Type 0
IsPastLimit bytes line (NumberRange at) = (at ≡ line) × IsTrue (is_numeral bytes) × (2 ^ 63 ≤ numeral_value bytes)
IsPastLimit bytes line (TooLong at) = (at ≡ line) × IsTrue (is_word bytes) × (MAX_NAME_BYTES < length bytes)
IsPastLimit bytes line NoMemory = ⊥
IsPastLimit bytes line (BadToken at) = ⊥
IsPastLimit bytes line (Unexpected at) = ⊥
