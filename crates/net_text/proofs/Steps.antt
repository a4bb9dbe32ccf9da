-- One step of the lexer: past a gap, and over a token.
use Rattle.std.proofs.Common.{◌≡◌, ℕ, ◌+◌, ◌-◌, ◌<◌, ◌≤◌, List, length, take, drop, get_or, count_by, ap, sym, ◌∙◌}
use Rattle.std.proofs.Common.{subst, arith, length-take, length-drop, add-zero}
use Rattle.std.specs.Prelude.{◌==◌}
use Rattle.std.specs.List.{slice_range}
use Rattle.std.specs.Str.{IsCharBoundary, IsUtf8}
use Rattle.std.proofs.Math.Seq.{take-add}
use Rattle.std.proofs.lemmas.List.{drop-drop, get_or-drop, get_or-take}
use Rattle.std.proofs.lemmas.List.Sums.{sum_by-append}
use Rattle.std.proofs.lemmas.Str.{IsCharBoundary-before_ascii, IsCharBoundary-after_ascii}
use Rattle.net_text.specs.Spellings.{IsLexeme, IsLongest, IsPastLimit}
use Rattle.net_text.specs.Tokens.{line_at, after_gap, IsAfterGap, IsBadFrom}
use Rattle.net_text.proofs.Lexemes.{lexeme_plain, lexeme_some, plain_at, plain_no_line_feed}
use Rattle.net_text.specs.declared.fault.TextFault.{TextFault}
use Rattle.net_text.specs.declared.fault.TextFault.TheVariants.{NoMemory, BadToken, Unexpected, NumberRange, TooLong}

-- the line after some more bytes
pub line_at-add : (text : List ℕ) (place n : ℕ)
    → line_at text (place + n) ≡ line_at text place + count_by (λ b. b == 10) (take n (drop place text))
line_at-add text place n =
    let e : count_by (λ b. b == 10) (take (place + n) text)
    ≡ count_by (λ b. b == 10) (take place text) + count_by (λ b. b == 10) (take n (drop place text)) =
    ap (count_by (λ b. b == 10)) (take-add place n text)
    ∙ sum_by-append _ (take place text) (take n (drop place text)) in
    omega arith

pub past_gap : (text : List ℕ) (place n line : ℕ) → place ≤ length text → n ≤ length (drop place text)
    → drop n (drop place text) ≡ after_gap (drop place text) → line ≡ line_at text place
    → IsAfterGap text place (place + n) (line + count_by (λ b. b == 10) (take n (drop place text)))
past_gap text place n line within gap after line_is =
    let len = length-drop place text in
    record {
      within = omega arith;
      after = sym (drop-drop n place text) ∙ after;
      line_is =
          ap (λ (k : ℕ). k + count_by (λ b. b == 10) (take n (drop place text))) line_is
          ∙ sym (line_at-add text place n);
    }

-- the bytes of a lexeme are ASCII
lexeme_byte : (text : List ℕ) (start n i : ℕ) → n ≤ length (drop start text) → IsLexeme (take n (drop start text))
    → i < n → get_or text (start + i) 0 < 128
lexeme_byte text start n i within lexeme lt =
    let len = length-take n (drop start text) in
    let p = (plain_at (take n (drop start text)) i (lexeme_plain _ lexeme) (omega arith)).1 in
    let e : get_or (take n (drop start text)) i 0 ≡ get_or text (start + i) 0 =
    get_or-take n (drop start text) i 0 lt ∙ get_or-drop start text i 0 in
    omega arith

-- so a text may be cut before it and after it
pub lexeme_begins : (text : List ℕ) (start n : ℕ) → start ≤ length text → n ≤ length (drop start text)
    → IsLexeme (take n (drop start text)) → IsCharBoundary text start
lexeme_begins text start n le within lexeme =
    let len = length-take n (drop start text) in
    let len' = length-drop start text in
    let some = lexeme_some (take n (drop start text)) lexeme in
    let byte = lexeme_byte text start n 0 within lexeme (omega arith) in
    IsCharBoundary-before_ascii text start (omega arith)
    (subst (λ (i : ℕ). get_or text i 0 < 128) (add-zero start) byte)

pub lexeme_ends : (text : List ℕ) (start n : ℕ) → IsUtf8 text → start ≤ length text → n ≤ length (drop start text)
    → IsLexeme (take n (drop start text)) → IsCharBoundary text (start + n)
lexeme_ends text start n utf8 le within lexeme =
    let len = length-take n (drop start text) in
    let len' = length-drop start text in
    let some = lexeme_some (take n (drop start text)) lexeme in
    let byte = lexeme_byte text start n (n - 1) within lexeme (omega arith) in
    let same : start + (n - 1) + 1 ≡ start + n = omega arith in
    subst (IsCharBoundary text) same (IsCharBoundary-after_ascii text (start + (n - 1)) utf8 (omega arith) byte)

-- and has no line feed
pub lexeme_line : (text : List ℕ) (start n : ℕ) → IsLexeme (take n (drop start text))
    → line_at text (start + n) ≡ line_at text start
lexeme_line text start n lexeme =
    let none = plain_no_line_feed (take n (drop start text)) (lexeme_plain _ lexeme) in
    let more = line_at-add text start n in
    omega arith

-- the slice from start on, of so many bytes
pub slice_is : (text : List ℕ) (start n : ℕ) → slice_range text start (start + n) ≡ take n (drop start text)
slice_is text start n = ap (λ (k : ℕ). take k (drop start text)) (let e : start + n - start ≡ n = omega arith in e)

pub past_limit : (text : List ℕ) (place start line n : ℕ) (fault : TextFault) → IsAfterGap text place start line
    → start < length text → IsLongest (take n (drop start text)) (drop start text)
    → IsPastLimit (take n (drop start text)) line fault → IsBadFrom text place fault
past_limit text place start line n (NumberRange at) gap lt longest past =
    record {
      start = start;
      within = lt;
      after = gap.after;
      bad =
          (past.0 ∙ gap.line_is, (take n (drop start text), longest, past.1, past.2));
    }
past_limit text place start line n (TooLong at) gap lt longest past =
    record {
      start = start;
      within = lt;
      after = gap.after;
      bad =
          (past.0 ∙ gap.line_is, (take n (drop start text), longest, past.1, past.2));
    }
past_limit text place start line n NoMemory gap lt longest past = absurd past
past_limit text place start line n (BadToken at) gap lt longest past = absurd past
past_limit text place start line n (Unexpected at) gap lt longest past = absurd past
