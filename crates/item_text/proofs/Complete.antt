-- Whatever text of items: its items are read.
use Rattle.std.proofs.Common.{◌≡◌, ℕ, ◌+◌, ◌*◌, ◌<◌, ◌≤◌, Bool, true, false, List, [], ◌∷◌, ◌++◌, length, ℤ, subst}
use Rattle.std.proofs.Common.{append_assoc, arith}
use Rattle.std.proofs.lemmas.Grind.{common_steps}
use Rattle.std.proofs.lemmas.List.{append-nil}
use Rattle.std.proofs.lemmas.Str.Parse.{digit_from_value}
use Rattle.std.specs.Char.{digit_value}
use Rattle.std.specs.Str.Parse.{AllDigits, digits_value, digits_value_after}
use Rattle.item_text.specs.declared.token.Token.{Token}
use Rattle.item_text.specs.declared.token.Token.TheVariants.{Between, Minus, Digits}
use Rattle.item_text.specs.Items.{Reading, read_byte, read_bytes, is_separator, largest, signed}
use Rattle.item_text.specs.Texts.{IsNumber, IsGap, IsItemsText, Stands}
use Rattle.item_text.proofs.Pieces.{read_bytes-append}

gap_byte : (byte : ℕ) (items : List ℤ) (r : Reading) → is_separator byte ≡ true → Stands Between items r
    → Stands Between items (read_byte byte r)
gap_byte byte items r gap at = grind (arith, common_steps, at.token_is, at.items_are, at.no_fault)

ending_byte : (byte : ℕ) (negative : Bool) (magnitude : ℕ) (items : List ℤ) (r : Reading) → is_separator byte ≡ true
    → Stands (Digits negative magnitude) items r
    → Stands Between (items ++ signed negative magnitude ∷ []) (read_byte byte r)
ending_byte byte negative magnitude items r ends at =
    grind (arith, common_steps, at.token_is, at.items_are, at.no_fault)

minus_byte : (items : List ℤ) (r : Reading) → Stands Between items r → Stands Minus items (read_byte 45 r)
minus_byte items r at = grind (arith, common_steps, at.token_is, at.items_are, at.no_fault)

-- a number begins, behind a minus or none
abbrev begun : Bool → Token
begun false = Between
begun true = Minus

first_digit : (byte : ℕ) (negative : Bool) (items : List ℤ) (r : Reading) → digit_value byte < 10
    → Stands (begun negative) items r → Stands (Digits negative (0 * 10 + digit_value byte)) items (read_byte byte r)
first_digit byte false items r digit at =
    grind (arith, common_steps, digit_from_value byte digit, at.token_is, at.items_are, at.no_fault)
first_digit byte true items r digit at =
    grind (arith, common_steps, digit_from_value byte digit, at.token_is, at.items_are, at.no_fault)

next_digit : (byte : ℕ) (negative : Bool) (magnitude : ℕ) (items : List ℤ) (r : Reading) → digit_value byte < 10
    → magnitude * 10 + digit_value byte ≤ largest negative → Stands (Digits negative magnitude) items r
    → Stands (Digits negative (magnitude * 10 + digit_value byte)) items (read_byte byte r)
next_digit byte negative magnitude items r digit fits at =
    grind (arith, common_steps, digit_from_value byte digit, at.token_is, at.items_are, at.no_fault)

-- digits only add to a number
no_less : (n : ℕ) (digits : List ℕ) → n ≤ digits_value_after 10 n digits
no_less n [] = omega arith
no_less n (digit ∷ digits) = omega (arith, no_less (n * 10 + digit_value digit) digits)

digits_stand : (digits : List ℕ) (negative : Bool) (n : ℕ) (items : List ℤ) (r : Reading) → AllDigits 10 digits
    → digits_value_after 10 n digits ≤ largest negative → Stands (Digits negative n) items r
    → Stands (Digits negative (digits_value_after 10 n digits)) items (read_bytes digits r)
digits_stand [] negative n items r each fits at = at
digits_stand (digit ∷ digits) negative n items r each fits at =
    digits_stand digits negative (n * 10 + digit_value digit) items (read_byte digit r) each.1 fits
    (next_digit digit negative n items r each.0 (omega (arith, fits, no_less (n * 10 + digit_value digit) digits)) at)

numeral_stands : (digits : List ℕ) (negative : Bool) (items : List ℤ) (r : Reading) → 0 < length digits
    → AllDigits 10 digits
    → digits_value 10 digits ≤ largest negative → Stands (begun negative) items r
    → Stands (Digits negative (digits_value 10 digits)) items (read_bytes digits r)
numeral_stands [] negative items r some each fits at = absurd (omega (arith, some))
numeral_stands (digit ∷ digits) negative items r some each fits at =
    digits_stand digits negative (0 * 10 + digit_value digit) items (read_byte digit r) each.1 fits
    (first_digit digit negative items r each.0 at)

number_stands : (negative : Bool) (magnitude : ℕ) (text : List ℕ) (items : List ℤ) (r : Reading)
    → IsNumber negative magnitude text
    → Stands Between items r → Stands (Digits negative magnitude) items (read_bytes text r)
number_stands false magnitude text items r number at =
    rw number.whole (subst (λ (m : ℕ). Stands (Digits false m) items (read_bytes number.digits r)) number.value
    (numeral_stands number.digits false items r number.numeral.0 number.numeral.1
    (omega (arith, number.value, number.in_range)) at))
number_stands true magnitude text items r number at =
    rw number.whole
    (subst (λ (m : ℕ). Stands (Digits true m) items (read_bytes number.digits (read_byte 45 r))) number.value
    (numeral_stands number.digits true items (read_byte 45 r) number.numeral.0 number.numeral.1
    (omega (arith, number.value, number.in_range)) (minus_byte items r at)))

gap_stands : (gap : List ℕ) (items : List ℤ) (r : Reading) → IsGap gap → Stands Between items r
    → Stands Between items (read_bytes gap r)
gap_stands [] items r each at = at
gap_stands (byte ∷ gap) items r each at =
    gap_stands gap items (read_byte byte r) each.1 (gap_byte byte items r each.0 at)

pub text_read : (items : List ℤ) (text : List ℕ) (before : List ℤ) (r : Reading) → IsItemsText items text
    → Stands Between before r
    → Stands Between (before ++ items) (read_bytes text r)
text_read [] text before r gap at = rw (append-nil before) (gap_stands text before r gap at)
text_read (item ∷ items) text before r begins at =
    let behind_gap : Stands Between before (read_bytes begins.gap r) =
    gap_stands begins.gap before r begins.is_gap at in
    let behind_number : Stands (Digits begins.negative begins.magnitude) before
    (read_bytes begins.number (read_bytes begins.gap r)) =
    number_stands begins.negative begins.magnitude begins.number before (read_bytes begins.gap r) begins.is_number
    behind_gap in
    let behind_item : Stands Between (before ++ signed begins.negative begins.magnitude ∷ [])
    (read_byte begins.byte (read_bytes begins.number (read_bytes begins.gap r))) =
    ending_byte begins.byte begins.negative begins.magnitude before _ begins.ends behind_number in
    rw (
      begins.whole,
      read_bytes-append begins.gap _ r,
      read_bytes-append begins.number _ _,
      begins.item_is,
      ← append_assoc before (signed begins.negative begins.magnitude ∷ []) items,
    )
    (text_read items begins.rest _ _ begins.goes behind_item)
