-- The lines of an inputs text. Lines end at line feeds; of each, one trailing carriage return is left out.
use Rattle.std.specs.Prelude.{◌≡◌, ◌⊎◌, ℕ, suc, ◌^◌, ◌<◌, ◌≤◌, Bool, false, ◌==◌, List, [], ◌∷◌, ◌++◌, length, IsTrue}
use Rattle.std.specs.Prelude.{All, ℤ, pos, neg_ℤ, map}
use Rattle.std.specs.List.{list_all, slice_split}
use Rattle.std.specs.Str.Lines.{strip_carriage_return}
use Rattle.std.specs.Char.{is_ascii_digit}
use Rattle.net_text.specs.Numbers.{is_numeral, numeral_value}
use Rattle.net_text.specs.Spellings.{continues_word, is_word}
use Rattle.net_text.specs.Trees.{InputTree}
use Rattle.net_text.specs.declared.fault.TextFault.{TextFault}
use Rattle.net_text.specs.declared.fault.TextFault.TheVariants.{NoMemory, BadToken, Unexpected, NumberRange, TooLong}
use Rattle.net_text.specs.declared.limits.TheConstants.{MAX_INPUTS_BYTES, MAX_NAME_BYTES}

-- the lines, without their line feeds
abbrev pub lines_of : List ℕ → List (List ℕ)
lines_of text = map strip_carriage_return (slice_split (λ b. b == 10) text)

abbrev pub is_space : ℕ → Bool
is_space b = b == 32

abbrev pub is_comment : List ℕ → Bool
is_comment [] = false
is_comment (b ∷ bs) = b == 35

-- a line that names no input: nothing but spaces, or what begins with #
abbrev pub IsBlank : List ℕ → Type 0
IsBlank line = IsTrue (list_all is_space line) ⊎ IsTrue (is_comment line)

-- an item within the signed 64 bits: digits, with a minus before them or none
abbrev pub IsItem : List ℕ → ℤ → Type 0
IsItem bytes v =
    (IsTrue (is_numeral bytes) × (numeral_value bytes < 2 ^ 63) × (v ≡ pos (numeral_value bytes)))
    ⊎ ((digits : List ℕ) × (bytes ≡ 45 ∷ digits) × IsTrue (is_numeral digits) × (numeral_value digits ≤ 2 ^ 63)
    × (v ≡ neg_ℤ (pos (numeral_value digits))))

-- items, each after one or more spaces, and then spaces or nothing
abbrev pub IsItems : List ℤ → List ℕ → Type 0
IsItems [] bytes = IsTrue (list_all is_space bytes)
IsItems (v ∷ vs) bytes =
    (gap : List ℕ) × (item : List ℕ) × (rest : List ℕ) × (bytes ≡ gap ++ (item ++ rest)) × (0 < length gap)
    × IsTrue (list_all is_space gap) × IsItem item v × IsItems vs rest

-- a name of at most 64 bytes, a colon and items
pub record IsEntry (number : ℕ) (line : List ℕ) (e : InputTree) : Type 0 where
  pub rest : List ℕ
  pub parts : line ≡ e.name.text ++ 58 ∷ rest
  pub word : IsTrue (is_word e.name.text)
  pub short : length e.name.text ≤ MAX_NAME_BYTES
  pub line_is : e.name.line ≡ number
  pub items : IsItems e.items rest

-- the entries of these lines, in order, of which the first has this number
abbrev pub AreEntries : ℕ → List (List ℕ) → List InputTree → Type 0
AreEntries number [] es = es ≡ []
AreEntries number (line ∷ lines) es =
    (IsBlank line × AreEntries (suc number) lines es)
    ⊎ ((e : InputTree) × (others : List InputTree) × (es ≡ e ∷ others) × IsEntry number line e
    × AreEntries (suc number) lines others)

-- a text of inputs has these entries, line by line
pub record IsInputsText (text : List ℕ) (es : List InputTree) : Type 0 where
  pub small : length text ≤ MAX_INPUTS_BYTES
  pub entries : AreEntries 1 (lines_of text) es

-- ---- faults: the first place of a line at which no right line goes on

-- a line that may stand in a text: a blank one, or an entry
abbrev pub IsRightLine : List ℕ → Type 0
IsRightLine line = IsBlank line ⊎ ((e : InputTree) × IsEntry e.name.line line e)

-- some right line begins so
abbrev pub BeginsLine : List ℕ → Type 0
BeginsLine front = (rest : List ℕ) × IsRightLine (front ++ rest)

-- what lies before this byte begins a right line, and with it no right line begins
pub record IsStuck (line front : List ℕ) (byte : ℕ) : Type 0 where
  pub rest : List ℕ
  pub parts : line ≡ front ++ byte ∷ rest
  pub begins : BeginsLine front
  pub ends : BeginsLine (front ++ byte ∷ []) → ⊥

-- the last byte is a digit
abbrev pub ends_in_digit : List ℕ → Bool
ends_in_digit [] = false
ends_in_digit (b ∷ []) = is_ascii_digit b
ends_in_digit (b ∷ (c ∷ bs)) = ends_in_digit (c ∷ bs)

-- the byte is one more digit of an item, behind the colon
abbrev pub IsMoreDigits : List ℕ → ℕ → Type 0
IsMoreDigits front byte =
    IsTrue (is_ascii_digit byte)
    × ((name : List ℕ) × (items : List ℕ) × (front ≡ name ++ 58 ∷ items) × IsTrue (ends_in_digit items))

-- the byte is one more of a name
abbrev pub IsMoreName : List ℕ → ℕ → Type 0
IsMoreName front byte = IsTrue (continues_word byte) × IsTrue (is_word front)

-- an item's next digit takes it out of the range
abbrev pub IsOutOfRange : List ℕ → Type 0
IsOutOfRange line = (front : List ℕ) × (byte : ℕ) × IsStuck line front byte × IsMoreDigits front byte

-- a name's next byte is one too many
abbrev pub IsLongName : List ℕ → Type 0
IsLongName line = (front : List ℕ) × (byte : ℕ) × IsStuck line front byte × IsMoreName front byte

-- the line ends behind its name
abbrev pub IsNameAlone : List ℕ → Type 0
IsNameAlone line = IsTrue (is_word line) × (length line ≤ MAX_NAME_BYTES)

-- the line ends behind a minus
pub record EndsInMinus (line : List ℕ) : Type 0 where
  pub front : List ℕ
  pub parts : line ≡ front ++ 45 ∷ []
  pub begins : BeginsLine line

-- any other byte can't stand at its place, or the line ends behind a minus
abbrev pub IsBadAtByte : List ℕ → Type 0
IsBadAtByte line =
    ((front : List ℕ) × (byte : ℕ) × IsStuck line front byte × (IsMoreDigits front byte → ⊥)
    × (IsMoreName front byte → ⊥))
    ⊎ EndsInMinus line

-- the first line that isn't right, and what is wrong with it, in a text that isn't over-long
pub record IsBadLine (text : List ℕ) (number : ℕ) (IsBad : List ℕ → Type 0) : Type 0 where
  pub small : length text ≤ MAX_INPUTS_BYTES
  pub before : List (List ℕ)
  pub line : List ℕ
  pub after : List (List ℕ)
  pub lines : lines_of text ≡ before ++ line ∷ after
  pub number_is : number ≡ suc (length before)
  pub right : All IsRightLine before
  pub wrong : IsRightLine line → ⊥
  pub bad : IsBad line

-- why an inputs text isn't read: what is wrong with its first line that isn't right, or the text is over-long
abbrev pub IsInputsFault : List ℕ → TextFault → Type 0
IsInputsFault text NoMemory = Unit {0}
IsInputsFault text (BadToken line) = IsBadLine text line IsBadAtByte
IsInputsFault text (Unexpected line) = IsBadLine text line IsNameAlone
IsInputsFault text (NumberRange line) = IsBadLine text line IsOutOfRange
IsInputsFault text (TooLong line) = ((MAX_INPUTS_BYTES < length text) × (line ≡ 1)) ⊎ IsBadLine text line IsLongName
