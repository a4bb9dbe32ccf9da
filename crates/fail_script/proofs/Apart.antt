-- Two numerals write different numbers exactly where they differ but for the zeros in front.
use Rattle.std.proofs.Common.{◌≡◌, ◌≢◌, ℕ, suc, zero, ◌+◌, ◌*◌, ◌^◌, ◌<◌, ◌≤◌, ◌==◌, ◌/◌, ◌%◌, Bool, true, false}
use Rattle.std.proofs.Common.{List, [], ◌∷◌, length, refl, ap, arith, sym, ◌∙◌, inl, inr, cond, get_or}
use Rattle.std.proofs.lemmas.Bool.{eqb-true, eqb-false, eq-eqb, ne_eqb, cases_lt, and_parts}
use Rattle.std.proofs.lemmas.Int.Digits.{digits_value-lt}
use Rattle.std.proofs.lemmas.Nat.{div-mul-add, mod-mul-add}
use Rattle.std.proofs.Math.Nat.{pow-suc, pow-le-pow_right}
use Rattle.std.proofs.lemmas.Str.{digit_value_digit}
use Rattle.std.specs.List.{list_all}
use Rattle.std.specs.Cmp.Lexicographic.{same_text, other_text, pointwise}
use Rattle.std.proofs.Common.{nat_eq}
use Rattle.std.specs.Char.{is_ascii_digit, digit_value}
use Rattle.std.specs.Str.Parse.{digits_value, digits_value_after, AllDigits}
use Rattle.net_text.proofs.Lexemes.{digit_bounds, numeral_digits}
use Rattle.net_text.specs.Numbers.{is_numeral, numeral_value}
use Rattle.fail_script.specs.Reading.{without_zeros}

shifted : (n d p v : ℕ) → (n * 10 + d) * p + v ≡ n * (p * 10) + ((0 + d) * p + v)
shifted n d p v = omega arith

-- what digits write behind a number
after_is : (n : ℕ) (bs : List ℕ) → digits_value_after 10 n bs ≡ n * 10 ^ length bs + digits_value 10 bs
after_is n [] = omega arith
after_is n (b ∷ bs) =
    rw (after_is (n * 10 + digit_value b) bs, after_is (0 + digit_value b) bs, pow-suc 10 (length bs))
    (shifted n (digit_value b) (10 ^ length bs) (digits_value 10 bs))

value_same_at : (b : ℕ) (bs : List ℕ) (zero : Bool) → (b == 48) ≡ zero
    → numeral_value (without_zeros bs) ≡ numeral_value bs
    → numeral_value (cond zero (without_zeros bs) (b ∷ bs)) ≡ numeral_value (b ∷ bs)
value_same_at b bs false e same = refl
value_same_at b bs true e same = rw (eqb-true b 48 e) same

value_same : (bs : List ℕ) → numeral_value (without_zeros bs) ≡ numeral_value bs
value_same [] = refl
value_same (b ∷ bs) = value_same_at b bs (b == 48) refl (value_same bs)

front_value : (b : ℕ) (bs : List ℕ) → digits_value 10 (b ∷ bs) ≡ digit_value b * 10 ^ length bs + digits_value 10 bs
front_value b bs = after_is (0 + digit_value b) bs ∙ omega arith

-- each of as many digits is told by their value
front_of : (b : ℕ) (bs : List ℕ) → AllDigits 10 bs → digits_value 10 (b ∷ bs) / 10 ^ length bs ≡ digit_value b
front_of b bs d = rw (front_value b bs) (div-mul-add (digit_value b) (10 ^ length bs) _ (digits_value-lt 10 bs d))

others_of : (b : ℕ) (bs : List ℕ) → AllDigits 10 bs → digits_value 10 (b ∷ bs) % 10 ^ length bs ≡ digits_value 10 bs
others_of b bs d = rw (front_value b bs) (mod-mul-add (digit_value b) (10 ^ length bs) _ (digits_value-lt 10 bs d))

-- a digit is told by its value
digit_of : (a b : ℕ) → is_ascii_digit a ≡ true → is_ascii_digit b ≡ true → digit_value a ≡ digit_value b → a ≡ b
digit_of a b x y same =
    let one = digit_value_digit a (digit_bounds a x) in
    let other = digit_value_digit b (digit_bounds b y) in omega arith

are_digits : (bs : List ℕ) → list_all is_ascii_digit bs ≡ true → AllDigits 10 bs
are_digits [] digits = tt
are_digits (b ∷ bs) digits =
    let parts = and_parts (is_ascii_digit b) (list_all is_ascii_digit bs) digits in
    let bounds = digit_bounds b parts.0 in
    let value = digit_value_digit b bounds in
    (omega arith, are_digits bs parts.1)

-- as many digits of one value are the same
same_digits : (xs ys : List ℕ) → list_all is_ascii_digit xs ≡ true → list_all is_ascii_digit ys ≡ true
    → length xs ≡ length ys → digits_value 10 xs ≡ digits_value 10 ys → xs ≡ ys
same_digits [] [] x y long same = refl
same_digits [] (b ∷ ys) x y long same = absurd cc
same_digits (a ∷ xs) [] x y long same = absurd cc
same_digits (a ∷ xs) (b ∷ ys) x y long same =
    let one = and_parts (is_ascii_digit a) (list_all is_ascii_digit xs) x in
    let other = and_parts (is_ascii_digit b) (list_all is_ascii_digit ys) y in
    let as_long = suc_inside long in
    let fronts =
    sym (front_of a xs (are_digits xs one.1))
    ∙ ap (λ v. v / 10 ^ length xs) same ∙ ap (λ k. digits_value 10 (b ∷ ys) / 10 ^ k) as_long
    ∙ front_of b ys (are_digits ys other.1) in
    let rests =
    sym (others_of a xs (are_digits xs one.1))
    ∙ ap (λ v. v % 10 ^ length xs) same ∙ ap (λ k. digits_value 10 (b ∷ ys) % 10 ^ k) as_long
    ∙ others_of b ys (are_digits ys other.1) in
    ap (λ c. c ∷ xs) (digit_of a b one.0 other.0 fronts)
    ∙ ap (λ cs. b ∷ cs) (same_digits xs ys one.1 other.1 as_long rests)
  where
    suc_inside : {m n : ℕ} → suc m ≡ suc n → m ≡ n
    suc_inside e = omega arith

-- digits behind no zero write at least as much as their number of places says
large_front : (b : ℕ) (bs : List ℕ) → is_ascii_digit b ≡ true → b ≢ 48 → 10 ^ length bs ≤ digits_value 10 (b ∷ bs)
large_front b bs digit some =
    let value = digit_value_digit b (digit_bounds b digit) in
    rw (front_value b bs)
    (above (digit_value b) (10 ^ length bs) (digits_value 10 bs) (past b (digit_value b) value some))
  where
    past : (b d : ℕ) → d + 48 ≡ b → b ≢ 48 → 1 ≤ d
    past b d e some = omega (arith, some)

    above : (d p v : ℕ) → 1 ≤ d → p ≤ d * p + v
    above zero p v some = absurd (omega arith)
    above (suc d) p v some = omega arith

-- the zeros in front are gone
no_zero_at : (b : ℕ) (bs rest : List ℕ) (zero : Bool) → (b == 48) ≡ zero
    → ((rest : List ℕ) → without_zeros bs ≢ 48 ∷ rest)
    → cond zero (without_zeros bs) (b ∷ bs) ≢ 48 ∷ rest
no_zero_at b bs rest true e others same = others rest same
no_zero_at b bs rest false e others same = eqb-false b 48 e (ap (λ xs. get_or xs 0 0) same)

no_zero : (bs rest : List ℕ) → without_zeros bs ≢ 48 ∷ rest
no_zero [] rest e = absurd cc
no_zero (b ∷ bs) rest e = no_zero_at b bs rest (b == 48) refl (no_zero bs) e

plain_digits : (bs : List ℕ) → list_all is_ascii_digit bs ≡ true → list_all is_ascii_digit (without_zeros bs) ≡ true
plain_digits [] digits = refl
plain_digits (b ∷ bs) digits =
    plain_at _ _ (b == 48) (plain_digits bs (and_parts (is_ascii_digit b) (list_all is_ascii_digit bs) digits).1) digits
  where
    plain_at : (xs ys : List ℕ) (zero : Bool) → list_all is_ascii_digit xs ≡ true → list_all is_ascii_digit ys ≡ true
        → list_all is_ascii_digit (cond zero xs ys) ≡ true
    plain_at xs ys true x y = x
    plain_at xs ys false x y = y

-- fewer places without zeros in front write less
fewer_less : (xs ys : List ℕ) → list_all is_ascii_digit xs ≡ true → list_all is_ascii_digit ys ≡ true
    → ((rest : List ℕ) → ys ≢ 48 ∷ rest) → length xs < length ys → digits_value 10 xs < digits_value 10 ys
fewer_less xs [] x y plain fewer = absurd (omega arith)
fewer_less xs (b ∷ ys) x y plain fewer =
    let parts = and_parts (is_ascii_digit b) (list_all is_ascii_digit ys) y in
    let small = digits_value-lt 10 xs (are_digits xs x) in
    let room : 10 ^ length xs ≤ 10 ^ length ys = pow-le-pow_right (omega arith) (shorter fewer) in
    let large = large_front b ys parts.0 (λ e. plain ys (ap (λ c. c ∷ ys) e)) in
    omega (arith, small, room, large)
  where
    shorter : {m n : ℕ} → m < suc n → m ≤ n
    shorter lt = omega arith

-- one value, one list of digits
same_plain : (xs ys : List ℕ) → list_all is_ascii_digit xs ≡ true → list_all is_ascii_digit ys ≡ true
    → ((rest : List ℕ) → xs ≢ 48 ∷ rest) → ((rest : List ℕ) → ys ≢ 48 ∷ rest)
    → digits_value 10 xs ≡ digits_value 10 ys → xs ≡ ys
same_plain xs ys x y one other same =
    elim (cases_lt (length xs) (length ys)) as (λ _. xs ≡ ys) [
      | inl fewer ↦ let less = fewer_less xs ys x y other fewer in absurd (omega (arith, less, same))
      | inr le ↦ elim (cases_lt (length ys) (length xs)) as (λ _. xs ≡ ys) [
        | inl fewer ↦ let less = fewer_less ys xs y x one fewer in absurd (omega (arith, less, same))
        | inr as_long ↦ same_digits xs ys x y (omega (arith, le, as_long)) same
      ]
    ]

pub same_value : (xs ys : List ℕ) → is_numeral xs ≡ true → is_numeral ys ≡ true
    → numeral_value xs ≡ numeral_value ys → without_zeros xs ≡ without_zeros ys
same_value xs ys x y same =
    same_plain (without_zeros xs) (without_zeros ys) (plain_digits xs (numeral_digits xs x))
    (plain_digits ys (numeral_digits ys y)) (no_zero xs) (no_zero ys) (value_same xs ∙ same ∙ sym (value_same ys))

pub same_plainly : (xs ys : List ℕ) → without_zeros xs ≡ without_zeros ys → numeral_value xs ≡ numeral_value ys
same_plainly xs ys same = sym (value_same xs) ∙ ap numeral_value same ∙ value_same ys

-- what a comparison of the two tells
pub told_apart : (xs ys : List ℕ) → is_numeral xs ≡ true → is_numeral ys ≡ true
    → pointwise nat_eq (without_zeros xs) (without_zeros ys) ≡ (numeral_value xs == numeral_value ys)
told_apart xs ys x y = told (pointwise nat_eq (without_zeros xs) (without_zeros ys)) refl
  where
    told : (r : Bool) → r ≡ pointwise nat_eq (without_zeros xs) (without_zeros ys)
        → r ≡ (numeral_value xs == numeral_value ys)
    told true same = sym (eq-eqb _ _ (same_plainly xs ys (same_text _ _ same)))
    told false differ = sym (ne_eqb _ _ (λ e. other_text _ _ differ (same_value xs ys x y e)))
