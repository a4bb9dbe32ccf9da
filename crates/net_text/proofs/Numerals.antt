-- What std reads of a numeral is the number that it writes.
use Rattle.std.proofs.Common.{◌≡◌, ℕ, ◌^◌, ◌<◌, ◌≤◌, true, List, length, Result, Err, inl, inr, rules}
use Rattle.std.proofs.lemmas.Bool.{cases_lt}
use Rattle.std.specs.List.{list_all}
use Rattle.std.specs.Result.{OkIff}
use Rattle.std.specs.Char.{is_ascii_digit}
use Rattle.std.specs.Str.Parse.{ParsesUnsigned, digits_value}
use Rattle.std.proofs.lemmas.Str.Parse.{IsNumeralModel, numerals_by_value, parse_digits}
use Rattle.net_text.specs.Numbers.{is_numeral, numeral_value}
use Rattle.net_text.proofs.Lexemes.{numeral_digits}

own : IsNumeralModel (λ ds. list_all is_ascii_digit ds ≡ true) (digits_value 10)
own = numerals_by_value _ (search rules)

pub numeral_parse : {E : Type 0} → (bs : List ℕ) (r : Result ℕ E) → ParsesUnsigned 64 10 bs r → is_numeral bs ≡ true
    → OkIff r ((0 < length bs) × (numeral_value bs < 2 ^ 64)) (numeral_value bs)
numeral_parse bs r parsed numeral = parse_digits own 64 bs r parsed (numeral_digits bs numeral)

pub too_large : {E : Type 0} → (bs : List ℕ) (e : E) → ParsesUnsigned 64 10 bs (Err e) → is_numeral bs ≡ true
    → 0 < length bs → 2 ^ 64 ≤ numeral_value bs
too_large bs e parsed numeral some =
    let h = numeral_parse bs (Err e) parsed numeral in
    elim (cases_lt (numeral_value bs) (2 ^ 64)) as (λ _. 2 ^ 64 ≤ numeral_value bs)
    [ inl lt ↦ absurd (h (some, lt)) | inr le ↦ le ]
