-- What is read of a numeral, digit by digit, is the number that it writes.
use Rattle.std.proofs.Common.{◌≡◌, ℕ, ◌^◌, ◌<◌, ◌+◌, ◌-◌, ◌*◌, ◌&&◌, Bool, true, List, [], length, take}
use Rattle.std.proofs.Common.{refl, ap, sym, ◌∙◌, arith, min, get_or}
use Rattle.std.specs.List.{list_all}
use Rattle.std.specs.Char.{is_ascii_digit, digit_value}
use Rattle.std.proofs.lemmas.Int.Digits.{digits_value_more}
use Rattle.std.proofs.lemmas.List.Folds.{list_all_more}
use Rattle.std.proofs.lemmas.Str.{digit_value_digit}
use Rattle.net_text.proofs.Lexemes.{digit_bounds}
use Rattle.net_text.specs.Numbers.{numeral_value}

-- these are digits alone, and the number is what they write, as far as 32 bits hold it
pub record AreDigitsOf (digits : List ℕ) (number : ℕ) : Type 0 where
  pub all : list_all is_ascii_digit digits ≡ true
  pub value : number ≡ min (numeral_value digits) (2 ^ 32)

pub no_digits : AreDigitsOf [] 0
no_digits = record { all = refl; value = refl }

-- a digit more, as far as 32 bits hold the number
cut_at_once : (v d : ℕ) → min (min v (2 ^ 32) * 10 + d) (2 ^ 32) ≡ min (v * 10 + d) (2 ^ 32)
cut_at_once v d = omega arith

pub one_digit_more : (word : List ℕ) (i number now : ℕ) → i < length word
    → is_ascii_digit (get_or word i 0) ≡ true → AreDigitsOf (take i word) number
    → now ≡ min (number * 10 + (get_or word i 0 - 48)) (2 ^ 32)
    → AreDigitsOf (take (i + 1) word) now
one_digit_more word i number now within digit so_far now_is =
    record {
      all = list_all_more is_ascii_digit word i 0 within ∙ both so_far.all digit;
      value =
          now_is
          ∙ ap (λ n. min (n * 10 + (get_or word i 0 - 48)) (2 ^ 32)) so_far.value
          ∙ cut_at_once (numeral_value (take i word)) (get_or word i 0 - 48)
          ∙ ap (λ d. min (numeral_value (take i word) * 10 + d) (2 ^ 32)) value
          ∙ ap (λ v. min v (2 ^ 32)) (sym (digits_value_more 10 word i within));
    }
  where
    both : {a b : Bool} → a ≡ true → b ≡ true → (a && b) ≡ true
    both one other = rw (one, other) refl

    value : get_or word i 0 - 48 ≡ digit_value (get_or word i 0)
    value = let same = digit_value_digit (get_or word i 0) (digit_bounds (get_or word i 0) digit) in omega arith
