-- What a lexeme's bytes are: printable ASCII, one at least.
use Rattle.std.proofs.Common.{◌≡◌, ℕ, zero, suc, ◌<◌, ◌≤◌, ◌⊎◌, Bool, true, false, ◌&&◌, eqb, ltb, leb, List, [], ◌∷◌}
use Rattle.std.proofs.Common.{length, take, get_or, ap, sym, refl, ◌∙◌, arith, inl, inr, length-take}
use Rattle.std.specs.Prelude.{count_by, ◌==◌}
use Rattle.std.specs.List.{list_all}
use Rattle.std.specs.Int.{is_in_range}
use Rattle.std.specs.Char.{is_ascii_digit, is_ascii_alphabetic}
use Rattle.std.proofs.lemmas.Bool.{and_parts, or_cases, leb-true, eqb-true, ltb-true, le-leb, lt-ltb, and_from}
use Rattle.std.proofs.lemmas.Bool.{both_ways, ne_eqb, or_left, cases_lt}
use Rattle.std.proofs.lemmas.List.{get_or-take}
use Rattle.net_text.proofs.Symbols.{spelling_length}
use Rattle.net_text.specs.Numbers.{is_numeral}
use Rattle.net_text.specs.Spellings.{symbol_spelling, starts_word, continues_word, is_word, IsLexeme, IsLongest}
use Rattle.net_text.specs.Spellings.{IsLongestSymbol}
use Rattle.net_text.specs.declared.token.Symbol.{Symbol}
use Rattle.net_text.specs.declared.token.Symbol.TheVariants as symbol

-- a printable byte of ASCII
abbrev pub is_plain : ℕ → Bool
is_plain b = leb 33 b && ltb b 128

in_range : (lo hi b : ℕ) → is_in_range lo hi b ≡ true → (lo ≤ b) × (b ≤ hi)
in_range lo hi b h = let p = and_parts _ _ h in (leb-true _ _ p.0, leb-true _ _ p.1)

plain_from : (b : ℕ) → 33 ≤ b → b < 128 → is_plain b ≡ true
plain_from b low high = and_from _ _ (le-leb 33 b low) (lt-ltb b 128 high)

pub digit_bounds : (b : ℕ) → is_ascii_digit b ≡ true → (48 ≤ b) × (b ≤ 57)
digit_bounds b h = in_range 48 57 b h

-- a byte that starts a word is no digit and no byte of a symbol
pub starts_bounds : (b : ℕ) → starts_word b ≡ true → (65 ≤ b) × (b ≤ 122)
starts_bounds b h =
    elim (or_cases (is_ascii_alphabetic b) (eqb b 95) h) as (λ _. (65 ≤ b) × (b ≤ 122)) [
      | inl letter ↦ letter_bounds b letter
      | inr underscore ↦ let e = eqb-true _ _ underscore in (omega arith, omega arith)
    ]
  where
    letter_bounds : (b : ℕ) → is_ascii_alphabetic b ≡ true → (65 ≤ b) × (b ≤ 122)
    letter_bounds b h =
        elim (or_cases (is_in_range 65 90 b) (is_in_range 97 122 b) h) as (λ _. (65 ≤ b) × (b ≤ 122)) [
          | inl upper ↦ let r = in_range 65 90 b upper in (omega arith, omega arith)
          | inr lower ↦ let r = in_range 97 122 b lower in (omega arith, omega arith)
        ]

pub continues_bounds : (b : ℕ) → continues_word b ≡ true → (48 ≤ b) × (b ≤ 122)
continues_bounds b h =
    elim (or_cases (starts_word b) (is_ascii_digit b) h) as (λ _. (48 ≤ b) × (b ≤ 122)) [
      | inl start ↦ let r = starts_bounds b start in (omega arith, omega arith)
      | inr digit ↦ let r = digit_bounds b digit in (omega arith, omega arith)
    ]

pub starts_continues : (b : ℕ) → starts_word b ≡ true → continues_word b ≡ true
starts_continues b h = or_left (starts_word b) (is_ascii_digit b) h

all_weaker : (p q : ℕ → Bool) → ((b : ℕ) → p b ≡ true → q b ≡ true) → (bs : List ℕ) → list_all p bs ≡ true
    → list_all q bs ≡ true
all_weaker p q weaker [] h = refl
all_weaker p q weaker (b ∷ bs) h = let parts = and_parts (p b) (list_all p bs) h in
    and_from (q b) (list_all q bs) (weaker b parts.0) (all_weaker p q weaker bs parts.1)

continues_plain : (b : ℕ) → continues_word b ≡ true → is_plain b ≡ true
continues_plain b h = let r = continues_bounds b h in plain_from b (omega arith) (omega arith)

digit_plain : (b : ℕ) → is_ascii_digit b ≡ true → is_plain b ≡ true
digit_plain b h = let r = digit_bounds b h in plain_from b (omega arith) (omega arith)

symbol_plain : (s : Symbol) → list_all is_plain (symbol_spelling s) ≡ true
symbol_plain symbol.Semicolon = refl
symbol_plain symbol.LeftBrace = refl
symbol_plain symbol.RightBrace = refl
symbol_plain symbol.LeftParenthesis = refl
symbol_plain symbol.RightParenthesis = refl
symbol_plain symbol.Assign = refl
symbol_plain symbol.Equal = refl
symbol_plain symbol.NotEqual = refl
symbol_plain symbol.Less = refl
symbol_plain symbol.LessOrEqual = refl
symbol_plain symbol.Greater = refl
symbol_plain symbol.GreaterOrEqual = refl
symbol_plain symbol.Plus = refl
symbol_plain symbol.Minus = refl
symbol_plain symbol.Star = refl

-- the bytes of a word continue a word
pub word_continues : (bs : List ℕ) → is_word bs ≡ true → list_all continues_word bs ≡ true
word_continues [] h = refl
word_continues (b ∷ bs) h = let parts = and_parts (starts_word b) (list_all continues_word bs) h in
    and_from (continues_word b) (list_all continues_word bs) (starts_continues b parts.0) parts.1

pub numeral_digits : (bs : List ℕ) → is_numeral bs ≡ true → list_all is_ascii_digit bs ≡ true
numeral_digits [] h = refl
numeral_digits (b ∷ bs) h = h

-- all bytes of a lexeme are printable ASCII
pub lexeme_plain : (bs : List ℕ) → IsLexeme bs → list_all is_plain bs ≡ true
lexeme_plain bs (inl word) = all_weaker continues_word is_plain continues_plain bs (word_continues bs word)
lexeme_plain bs (inr (inl numeral)) = all_weaker is_ascii_digit is_plain digit_plain bs (numeral_digits bs numeral)
lexeme_plain bs (inr (inr s)) = ap (list_all is_plain) s.1 ∙ symbol_plain s.0

pub lexeme_some : (bs : List ℕ) → IsLexeme bs → 0 < length bs
lexeme_some [] (inl word) = absurd cc
lexeme_some [] (inr (inl numeral)) = absurd cc
lexeme_some [] (inr (inr s)) = let l = ap length s.1 in let limits = spelling_length s.0 in omega arith
lexeme_some (b ∷ bs) h = omega arith

pub plain_at : (bs : List ℕ) (i : ℕ) → list_all is_plain bs ≡ true → i < length bs
    → (33 ≤ get_or bs i 0) × (get_or bs i 0 < 128)
plain_at (b ∷ bs) zero h lt = let parts = and_parts (is_plain b) (list_all is_plain bs) h in let p =
    and_parts _ _ parts.0 in (leb-true _ _ p.0, ltb-true _ _ p.1)
plain_at (b ∷ bs) (suc i) h lt = let parts = and_parts (is_plain b) (list_all is_plain bs) h in
    plain_at bs i parts.1 (omega arith)
plain_at [] i h lt = absurd (omega arith)

-- so no line feed is among them
pub plain_no_line_feed : (bs : List ℕ) → list_all is_plain bs ≡ true → count_by (λ b. b == 10) bs ≡ 0
plain_no_line_feed [] h = refl
plain_no_line_feed (b ∷ bs) h =
    let parts = and_parts (is_plain b) (list_all is_plain bs) h in
    let p = and_parts _ _ parts.0 in
    let low : 33 ≤ b = leb-true _ _ p.0 in
    let other : (b == 10) ≡ false = ne_eqb b 10 (λ e. omega arith) in
    let rest = plain_no_line_feed bs parts.1 in
    rw other rest

pub passes_at : (p : ℕ → Bool) (bs : List ℕ) (i : ℕ) → list_all p bs ≡ true → i < length bs → p (get_or bs i 0) ≡ true
passes_at p (b ∷ bs) zero h lt = (and_parts (p b) (list_all p bs) h).0
passes_at p (b ∷ bs) (suc i) h lt = passes_at p bs i (and_parts (p b) (list_all p bs) h).1 (omega arith)
passes_at p [] i h lt = absurd (omega arith)

pub first_of_word : (bs : List ℕ) → is_word bs ≡ true → starts_word (get_or bs 0 0) ≡ true
first_of_word [] h = absurd cc
first_of_word (b ∷ bs) h = (and_parts (starts_word b) (list_all continues_word bs) h).0

pub first_of_numeral : (bs : List ℕ) → is_numeral bs ≡ true → is_ascii_digit (get_or bs 0 0) ≡ true
first_of_numeral [] h = absurd cc
first_of_numeral (b ∷ bs) h = (and_parts (is_ascii_digit b) (list_all is_ascii_digit bs) h).0

-- a symbol begins with neither a digit nor a letter nor _
pub first_of_symbol : (s : Symbol)
    → ((get_or (symbol_spelling s) 0 0 < 48) ⊎ (57 < get_or (symbol_spelling s) 0 0))
    × ((get_or (symbol_spelling s) 0 0 < 65) ⊎ (122 < get_or (symbol_spelling s) 0 0))
first_of_symbol symbol.Semicolon = (inr (omega arith), inl (omega arith))
first_of_symbol symbol.LeftBrace = (inr (omega arith), inr (omega arith))
first_of_symbol symbol.RightBrace = (inr (omega arith), inr (omega arith))
first_of_symbol symbol.LeftParenthesis = (inl (omega arith), inl (omega arith))
first_of_symbol symbol.RightParenthesis = (inl (omega arith), inl (omega arith))
first_of_symbol symbol.Assign = (inr (omega arith), inl (omega arith))
first_of_symbol symbol.Equal = (inr (omega arith), inl (omega arith))
first_of_symbol symbol.NotEqual = (inl (omega arith), inl (omega arith))
first_of_symbol symbol.Less = (inr (omega arith), inl (omega arith))
first_of_symbol symbol.LessOrEqual = (inr (omega arith), inl (omega arith))
first_of_symbol symbol.Greater = (inr (omega arith), inl (omega arith))
first_of_symbol symbol.GreaterOrEqual = (inr (omega arith), inl (omega arith))
first_of_symbol symbol.Plus = (inl (omega arith), inl (omega arith))
first_of_symbol symbol.Minus = (inl (omega arith), inl (omega arith))
first_of_symbol symbol.Star = (inl (omega arith), inl (omega arith))

first_of_front : (n : ℕ) (bs : List ℕ) → 0 < n → get_or (take n bs) 0 0 ≡ get_or bs 0 0
first_of_front n bs h = get_or-take n bs 0 0 h

-- a lexeme that begins with a letter or _ is a word, and one that begins with a digit a numeral
pub is_word_from : (bs : List ℕ) → IsLexeme bs → starts_word (get_or bs 0 0) ≡ true → is_word bs ≡ true
is_word_from bs (inl word) start = word
is_word_from bs (inr (inl numeral)) start = let d = digit_bounds (get_or bs 0 0) (first_of_numeral bs numeral) in
    let w = starts_bounds (get_or bs 0 0) start in absurd (omega arith)
is_word_from bs (inr (inr s)) start =
    let w = starts_bounds (get_or bs 0 0) start in
    let e = ap (λ (t : List ℕ). get_or t 0 0) s.1 in
    elim (first_of_symbol s.0).1 as (λ _. is_word bs ≡ true)
    [ inl low ↦ absurd (omega arith) | inr high ↦ absurd (omega arith) ]

pub is_numeral_from : (bs : List ℕ) → IsLexeme bs → is_ascii_digit (get_or bs 0 0) ≡ true → is_numeral bs ≡ true
is_numeral_from bs (inl word) start = let d = digit_bounds (get_or bs 0 0) start in let w =
    starts_bounds (get_or bs 0 0) (first_of_word bs word) in absurd (omega arith)
is_numeral_from bs (inr (inl numeral)) start = numeral
is_numeral_from bs (inr (inr s)) start =
    let w = digit_bounds (get_or bs 0 0) start in
    let e = ap (λ (t : List ℕ). get_or t 0 0) s.1 in
    elim (first_of_symbol s.0).0 as (λ _. is_numeral bs ≡ true)
    [ inl low ↦ absurd (omega arith) | inr high ↦ absurd (omega arith) ]

-- a run of bytes that pass a test, which ends where the next one doesn't
pub record IsRun (p : ℕ → Bool) (n : ℕ) (bs : List ℕ) : Type 0 where
  pub some : 0 < length bs
  pub first : p (get_or bs 0 0) ≡ true
  pub within : n ≤ length bs
  pub all : list_all p (take n bs) ≡ true
  pub stops : n < length bs → p (get_or bs n 0) ≡ false

run_some : (p : ℕ → Bool) (n : ℕ) (bs : List ℕ) → IsRun p n bs → 0 < n
run_some p zero bs run = absurd (both_ways _ (run.stops run.some) run.first)
run_some p (suc n) bs run = omega arith

-- no longer front passes
run_longest : (p : ℕ → Bool) (n m : ℕ) (bs : List ℕ) → IsRun p n bs → m ≤ length bs → list_all p (take m bs) ≡ true
    → m ≤ n
run_longest p n m bs run le all =
    elim (cases_lt n m) as (λ _. m ≤ n) [
      | inl past ↦ absurd
          (both_ways _ (run.stops (omega arith))
          (sym (ap p (get_or-take m bs n 0 past)) ∙ passes_at p (take m bs) n all (omega (arith, length-take m bs))))
      | inr not_past ↦ not_past
    ]

pub word_from_run : (bs : List ℕ) → 0 < length bs → starts_word (get_or bs 0 0) ≡ true
    → list_all continues_word bs ≡ true → is_word bs ≡ true
word_from_run [] some start all = absurd (omega arith)
word_from_run (b ∷ bs) some start all =
    and_from (starts_word b) (list_all continues_word bs) start
    (and_parts (continues_word b) (list_all continues_word bs) all).1

pub numeral_from_run : (bs : List ℕ) → 0 < length bs → list_all is_ascii_digit bs ≡ true → is_numeral bs ≡ true
numeral_from_run [] some all = absurd (omega arith)
numeral_from_run (b ∷ bs) some all = all

front_take : (n : ℕ) (bs : List ℕ) → n ≤ length bs → take n bs ≡ take (length (take n bs)) bs
front_take n bs le = ap (λ (k : ℕ). take k bs) (let l = length-take n bs in omega arith)

pub longest_word : (n : ℕ) (bs : List ℕ) → IsRun continues_word n bs → starts_word (get_or bs 0 0) ≡ true
    → IsLongest (take n bs) bs × (is_word (take n bs) ≡ true)
longest_word n bs run start =
    let some = run_some continues_word n bs run in
    let len = length-take n bs in
    let within = run.within in
    let word = word_from_run (take n bs) (omega arith) (ap starts_word (first_of_front n bs some) ∙ start) run.all in (
      record {
        lexeme = inl word;
        front_of = front_take n bs run.within;
        longest = λ m le lexeme.
            let positive = lexeme_some (take m bs) lexeme in
            let len' = length-take m bs in
            let word' = is_word_from (take m bs) lexeme (ap starts_word (first_of_front m bs (omega arith)) ∙ start) in
            let short = run_longest continues_word n m bs run le (word_continues (take m bs) word') in
            omega arith;
      },
      word,
    )

pub longest_numeral : (n : ℕ) (bs : List ℕ) → IsRun is_ascii_digit n bs
    → IsLongest (take n bs) bs × (is_numeral (take n bs) ≡ true)
longest_numeral n bs run =
    let some = run_some is_ascii_digit n bs run in
    let len = length-take n bs in
    let within = run.within in
    let numeral = numeral_from_run (take n bs) (omega arith) run.all in (
      record {
        lexeme = inr (inl numeral);
        front_of = front_take n bs run.within;
        longest = λ m le lexeme.
            let positive = lexeme_some (take m bs) lexeme in
            let len' = length-take m bs in
            let numeral' =
            is_numeral_from (take m bs) lexeme
            (ap is_ascii_digit (first_of_front m bs (omega arith)) ∙ run.first) in
            let short = run_longest is_ascii_digit n m bs run le (numeral_digits (take m bs) numeral') in
            omega arith;
      },
      numeral,
    )

-- where the first byte is neither, a lexeme is a symbol
pub symbol_from : (bs : List ℕ) → IsLexeme bs → starts_word (get_or bs 0 0) ≡ false
    → is_ascii_digit (get_or bs 0 0) ≡ false → (s : Symbol) × (bs ≡ symbol_spelling s)
symbol_from bs (inl word) no_start no_digit = absurd (both_ways _ no_start (first_of_word bs word))
symbol_from bs (inr (inl numeral)) no_start no_digit = absurd (both_ways _ no_digit (first_of_numeral bs numeral))
symbol_from bs (inr (inr s)) no_start no_digit = s

pub longest_symbol : (s : Symbol) (n : ℕ) (bs : List ℕ) → IsLongestSymbol s n bs → starts_word (get_or bs 0 0) ≡ false
    → is_ascii_digit (get_or bs 0 0) ≡ false → IsLongest (take n bs) bs
longest_symbol s n bs found no_start no_digit =
    let len = length-take n bs in
    let within = found.within in
    record {
      lexeme = inr (inr (s, found.spelled));
      front_of = front_take n bs found.within;
      longest = λ m le lexeme.
          let positive = lexeme_some (take m bs) lexeme in
          let len' = length-take m bs in
          let same = first_of_front m bs (omega arith) in
          let t = symbol_from (take m bs) lexeme (ap starts_word same ∙ no_start) (ap is_ascii_digit same ∙ no_digit) in
          let short = found.longest t.0 m le t.1 in
          omega arith;
    }

pub no_lexeme : (bs : List ℕ) → ((s : Symbol) (n : ℕ) → n ≤ length bs → take n bs ≡ symbol_spelling s → ⊥)
    → starts_word (get_or bs 0 0) ≡ false → is_ascii_digit (get_or bs 0 0) ≡ false → (n : ℕ) → n ≤ length bs
    → IsLexeme (take n bs) → ⊥
no_lexeme bs no_symbol no_start no_digit n le lexeme =
    let positive = lexeme_some (take n bs) lexeme in
    let len = length-take n bs in
    let same = first_of_front n bs (omega arith) in
    let t = symbol_from (take n bs) lexeme (ap starts_word same ∙ no_start) (ap is_ascii_digit same ∙ no_digit) in
    no_symbol t.0 n le t.1

pub numeral_some : (bs : List ℕ) → is_numeral bs ≡ true → 0 < length bs
numeral_some bs numeral = lexeme_some bs (inr (inl numeral))
