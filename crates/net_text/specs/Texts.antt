-- What reading a network's text may answer.
use Rattle.std.specs.Prelude.{◌≡◌, ◌⊎◌, ◌<◌, ◌≤◌, ℕ, suc, List, [], ◌∷◌, ◌++◌, length, Result, Ok, Err}
use Rattle.net_text.specs.Tokens.{Lexeme, line_at, AreTokensTo, IsTokenFrom, EndsAt, IsBadFrom}
use Rattle.net_text.specs.Trees.{DeclarationTree}
use Rattle.net_text.specs.Grammar.{Whole, IsText, IsTextOf, Begins, IsFront}
use Rattle.net_text.specs.Editions.{Ranged, Unranged}
use Rattle.net_text.specs.declared.token.TokenKind.TheVariants as kind
use Rattle.net_text.specs.declared.fault.TextFault.{TextFault}
use Rattle.net_text.specs.declared.fault.TextFault.TheVariants.{NoMemory, BadToken, Unexpected, NumberRange, TooLong}
use Rattle.net_text.specs.declared.limits.TheConstants.{MAX_TEXT_BYTES, MAX_NESTING}

-- an answer that, seen so, is this value, unless memory ran out
abbrev pub Answers : {X Y : Type 0} → (X → Y) → Result X TextFault → Y → Type 0
Answers view (Ok x) y = view x ≡ y
Answers view (Err fault) y = fault ≡ NoMemory

-- the text is refused by this fault, unless memory runs out
abbrev pub IsRefusedBy : {X : Type 0} → TextFault → Result X TextFault → Type 0
IsRefusedBy fault (Ok x) = fault ≡ NoMemory
IsRefusedBy fault (Err other) = (fault ≡ NoMemory) ⊎ ((other ≡ NoMemory) ⊎ (other ≡ fault))

-- These are the tokens of a text up to a place, and with them some text within the limits begins. It may want a block
-- that is one too many.
pub record BeginsTo (text : List ℕ) (ts : List Lexeme) (place : ℕ) : Type 0 where
  pub read : AreTokensTo text 0 ts place
  pub begins : Begins Ranged MAX_NESTING ts
  pub front : IsFront Ranged (suc MAX_NESTING) ts

-- on this line comes the token with which no text begins any more, and none would if one more might be open and
-- repetitions might have any number
pub record IsStrayToken (text : List ℕ) (ts : List Lexeme) (place line : ℕ) : Type 0 where
  pub token : Lexeme
  pub next : IsTokenFrom text place token
  pub line_is : line ≡ token.line
  pub none : Begins Ranged MAX_NESTING (ts ++ token ∷ []) → ⊥
  pub none_deeper : Begins Unranged (suc MAX_NESTING) (ts ++ token ∷ []) → ⊥
  pub no_front : IsFront Unranged (suc MAX_NESTING) (ts ++ token ∷ []) → ⊥

-- on this line comes the token with which no text begins any more, but one would if one more might be open
pub record IsOneTooDeep (text : List ℕ) (ts : List Lexeme) (place line : ℕ) : Type 0 where
  pub token : Lexeme
  pub next : IsTokenFrom text place token
  pub line_is : line ≡ token.line
  pub none : Begins Ranged MAX_NESTING (ts ++ token ∷ []) → ⊥
  pub no_front : IsFront Ranged MAX_NESTING (ts ++ token ∷ []) → ⊥
  pub deeper : Begins Unranged (suc MAX_NESTING) (ts ++ token ∷ [])
  pub no_number : (n : ℕ) → token.kind ≡ kind.Number n → ⊥

-- on this line comes a number with which no text begins any more, but one would if repetitions might have any number
pub record IsCountPastLimits (text : List ℕ) (ts : List Lexeme) (place line : ℕ) : Type 0 where
  pub token : Lexeme
  pub next : IsTokenFrom text place token
  pub line_is : line ≡ token.line
  pub none : Begins Ranged MAX_NESTING (ts ++ token ∷ []) → ⊥
  pub no_front : IsFront Ranged MAX_NESTING (ts ++ token ∷ []) → ⊥
  pub unranged : Begins Unranged (suc MAX_NESTING) (ts ++ token ∷ [])
  pub number : ℕ
  pub number_is : token.kind ≡ kind.Number number

-- the text ends too early: there, on this line
pub record IsCutShort (text : List ℕ) (ts : List Lexeme) (place line : ℕ) : Type 0 where
  pub ends : EndsAt text place
  pub line_is : line ≡ line_at text (length text)
  pub none : (tree : List DeclarationTree) → IsText Ranged MAX_NESTING tree Whole ts → ⊥

-- some text within the limits begins with the tokens up to a place, where this comes next
abbrev pub BeginsBefore : List ℕ → (List Lexeme → ℕ → Type 0) → Type 0
BeginsBefore text Comes =
    (length text ≤ MAX_TEXT_BYTES) × ((ts : List Lexeme) × (place : ℕ) × BeginsTo text ts place × Comes ts place)

abbrev pub IsBadNext : List ℕ → TextFault → Type 0
IsBadNext text fault = BeginsBefore text (λ ts place. IsBadFrom text place fault)

-- Why a text isn't read: the first token at which no text can go on is bad, or opens one more than may be open, or is
-- the number of a repetition and outside its limits, or stands where it can't; or the text is over-long.
abbrev pub IsParseFault : List ℕ → TextFault → Type 0
IsParseFault text (BadToken line) = IsBadNext text (BadToken line)
IsParseFault text (NumberRange line) =
    IsBadNext text (NumberRange line) ⊎ BeginsBefore text (λ ts place. IsCountPastLimits text ts place line)
IsParseFault text (TooLong line) =
    ((MAX_TEXT_BYTES < length text) × (line ≡ 1))
    ⊎ (IsBadNext text (TooLong line) ⊎ BeginsBefore text (λ ts place. IsOneTooDeep text ts place line))
IsParseFault text (Unexpected line) =
    ((tree : List DeclarationTree) → IsTextOf tree text → ⊥)
    × BeginsBefore text (λ ts place. IsStrayToken text ts place line ⊎ IsCutShort text ts place line)
IsParseFault text NoMemory = Unit {0}
