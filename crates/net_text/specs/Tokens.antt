-- The tokens of a text: between them stand white space and comments, and each is the longest that can stand at its
-- place.
use Rattle.std.specs.Prelude.{◌≡◌, ◌⊎◌, ℕ, suc, ◌+◌, ◌^◌, ◌<◌, ◌≤◌, Bool, true, false, ◌||◌, ◌==◌, if◌then◌else◌, List}
use Rattle.std.specs.Prelude.{[], ◌∷◌, length, take, drop, count_by, IsTrue, map}
use Rattle.net_text.specs.Numbers.{is_numeral, numeral_value}
use Rattle.net_text.specs.Spellings.{IsLexeme, IsLongest, Spells, is_word}
use Rattle.net_text.specs.declared.fault.TextFault.{TextFault}
use Rattle.net_text.specs.declared.fault.TextFault.TheVariants.{NoMemory, BadToken, Unexpected, NumberRange, TooLong}
use Rattle.net_text.specs.declared.lexer.End.{End}
use Rattle.net_text.specs.declared.lexer.End.TheVariants as end
use Rattle.net_text.specs.declared.token.Token.{Token}
use Rattle.net_text.specs.declared.token.TokenKind.{TokenKind}
use Rattle.net_text.specs.declared.limits.TheConstants.{MAX_NAME_BYTES, MAX_TEXT_BYTES}

-- 1 plus the line feeds before a place
abbrev pub line_at : List ℕ → ℕ → ℕ
line_at text place = suc (count_by (λ b. b == 10) (take place text))

-- space, tab, carriage return, line feed
abbrev pub is_white : ℕ → Bool
is_white b = (b == 32) || ((b == 9) || ((b == 13) || (b == 10)))

-- what is left after the rest of a comment (where the test says that one is open), white space and comments
abbrev pub after_gap_in : Bool → List ℕ → List ℕ
after_gap_in in_comment [] = []
after_gap_in true (b ∷ bs) = if b == 10 then after_gap_in false bs else after_gap_in true bs
after_gap_in false (b ∷ bs) =
    if b == 35 then after_gap_in true bs else (if is_white b then after_gap_in false bs else b ∷ bs)

-- what is left after white space and comments; a comment goes from a # to the end of its line
abbrev pub after_gap : List ℕ → List ℕ
after_gap bytes = after_gap_in false bytes

-- white space and comments stand from a place on up to another, which is on this line
pub record IsAfterGap (text : List ℕ) (place start line : ℕ) : Type 0 where
  pub within : start ≤ length text
  pub after : drop start text ≡ after_gap (drop place text)
  pub line_is : line ≡ line_at text start

-- a token of a text: its kind, its bytes, the place of the first of them, and its line
pub record Lexeme : Type 0 where
  pub kind : TokenKind
  pub text : List ℕ
  pub start : ℕ
  pub line : ℕ

abbrev pub lexeme_of : Token → Lexeme
lexeme_of t = record { kind = t.kind; text = t.text.now; start = t.start; line = t.line }

abbrev pub lexemes : List Token → List Lexeme
lexemes ts = map lexeme_of ts

-- the token that comes first in a text from a place on
pub record IsTokenFrom (text : List ℕ) (place : ℕ) (t : Lexeme) : Type 0 where
  pub within : t.start ≤ length text
  pub after : drop t.start text ≡ after_gap (drop place text)
  pub longest : IsLongest t.text (drop t.start text)
  pub spelled : Spells t.kind t.text
  pub line_is : t.line ≡ line_at text t.start

-- these tokens stand in a text from a place on, one after another, and the last ends where it says
abbrev pub AreTokensTo : List ℕ → ℕ → List Lexeme → ℕ → Type 0
AreTokensTo text place [] last = place ≡ last
AreTokensTo text place (t ∷ ts) last = IsTokenFrom text place t × AreTokensTo text (t.start + length t.text) ts last

-- nothing but white space and comments stands from a place on
abbrev pub EndsAt : List ℕ → ℕ → Type 0
EndsAt text place = after_gap (drop place text) ≡ []

-- these are the tokens of a text, all of them
pub record AreTokens (text : List ℕ) (ts : List Lexeme) : Type 0 where
  pub place : ℕ
  pub read : AreTokensTo text 0 ts place
  pub ends : EndsAt text place

-- at this place, where a token should begin, stands none
abbrev pub IsBadAt : List ℕ → ℕ → TextFault → Type 0
-- no front is a token
IsBadAt text start (BadToken line) =
    (line ≡ line_at text start) × ((n : ℕ) → n ≤ length (drop start text) → IsLexeme (take n (drop start text)) → ⊥)
-- a numeral past the range of the signed 64 bits
IsBadAt text start (NumberRange line) =
    (line ≡ line_at text start)
    × ((front : List ℕ) × IsLongest front (drop start text) × IsTrue (is_numeral front)
    × (2 ^ 63 ≤ numeral_value front))
-- a name of more than 64 bytes
IsBadAt text start (TooLong line) =
    (line ≡ line_at text start)
    × ((front : List ℕ) × IsLongest front (drop start text) × IsTrue (is_word front) × (MAX_NAME_BYTES < length front))
IsBadAt text start NoMemory = ⊥
IsBadAt text start (Unexpected line) = ⊥

-- in the place of the first token from a place on stands what is none
pub record IsBadFrom (text : List ℕ) (place : ℕ) (fault : TextFault) : Type 0 where
  pub start : ℕ
  pub within : start < length text
  pub after : drop start text ≡ after_gap (drop place text)
  pub bad : IsBadAt text start fault

-- how the reading of a text's tokens ends, where the last one read ends at this place
abbrev pub StopsAt : List ℕ → ℕ → End → Type 0
StopsAt text place (end.Text line) = EndsAt text place × (line ≡ line_at text (length text))
StopsAt text place (end.Bad fault) = IsBadFrom text place fault

-- what was read of a text: its tokens up to its end, or up to the first that is bad
pub record IsReading (text : List ℕ) (ts : List Lexeme) (stop : End) : Type 0 where
  pub place : ℕ
  pub read : AreTokensTo text 0 ts place
  pub stops : StopsAt text place stop

-- these are the tokens of a text before the first that is bad
pub record AreTokensBefore (text : List ℕ) (ts : List Lexeme) (fault : TextFault) : Type 0 where
  pub place : ℕ
  pub read : AreTokensTo text 0 ts place
  pub bad : IsBadFrom text place fault

abbrev pub IsFirstFault : List ℕ → TextFault → Type 0
IsFirstFault text fault = (length text ≤ MAX_TEXT_BYTES) × ((ts : List Lexeme) × AreTokensBefore text ts fault)

-- Why a text has no tokens: it is over-long, or these are its tokens before the first that is bad. Of want of memory
-- the text says nothing.
abbrev pub IsTokensFault : List ℕ → TextFault → Type 0
IsTokensFault text NoMemory = Unit {0}
IsTokensFault text (BadToken line) = IsFirstFault text (BadToken line)
IsTokensFault text (NumberRange line) = IsFirstFault text (NumberRange line)
IsTokensFault text (TooLong line) = ((MAX_TEXT_BYTES < length text) × (line ≡ 1)) ⊎ IsFirstFault text (TooLong line)
IsTokensFault text (Unexpected line) = ⊥
