-- Whatever was read to its end without a fault is a text of the items that were read.
use Rattle.std.proofs.Common.{◌≡◌, ◌⊎◌, inl, inr, ℕ, ◌+◌, ◌-◌, ◌*◌, ◌<◌, ◌≤◌, Bool, true, false, cond, ◌==◌, nat_le}
use Rattle.std.proofs.Common.{List, [], ◌∷◌, ◌++◌, ℤ, None, is_some, refl, sym, ◌∙◌, ap, subst, append_assoc, arith}
use Rattle.std.proofs.lemmas.Bool.{cases_Bool, eqb-true, leb-true}
use Rattle.std.proofs.lemmas.Grind.{common_steps}
use Rattle.std.proofs.lemmas.List.{append-nil}
use Rattle.std.proofs.lemmas.Int.Digits.{digits_value_push, digits_push}
use Rattle.std.specs.Char.{digit_value, is_ascii_digit}
use Rattle.item_text.specs.declared.token.Token.{Token}
use Rattle.item_text.specs.declared.token.Token.TheVariants.{Between, Minus, Digits}
use Rattle.item_text.specs.Items.{Reading, read_byte, read_bytes, is_separator, largest, signed}
use Rattle.item_text.specs.Texts.{IsNumber, IsItemsText}
use Rattle.item_text.proofs.Pieces.{read_bytes-stopped}

-- what was read of the token at the end
abbrev IsFront : Token → List ℕ → Type 0
IsFront Between front = front ≡ []
IsFront Minus front = front ≡ 45 ∷ []
IsFront (Digits negative magnitude) front = IsNumber negative magnitude front

-- One byte more: what it begins or goes on with, and the items that it adds, whatever follows.
record Step (byte : ℕ) (front : List ℕ) (r : Reading) : Type 0 where
  next : List ℕ
  added : List ℤ
  is_front : IsFront (read_byte byte r).token next
  items_are : (read_byte byte r).items ≡ r.items ++ added
  goes : (rest : List ℕ) (items : List ℤ) → IsItemsText items (next ++ rest)
      → IsItemsText (added ++ items) (front ++ byte ∷ rest)

-- or a fault
abbrev Goes : ℕ → List ℕ → Reading → Type 0
Goes byte front r = (is_some (read_byte byte r).fault ≡ true) ⊎ Step byte front r

-- a separator before a text of items
gap_first : (byte : ℕ) (items : List ℤ) (text : List ℕ) → is_separator byte ≡ true → IsItemsText items text
    → IsItemsText items (byte ∷ text)
gap_first byte [] text gap is = (gap, is)
gap_first byte (item ∷ items) text gap is = record {
  gap = byte ∷ is.gap;
  negative = is.negative;
  magnitude = is.magnitude;
  number = is.number;
  byte = is.byte;
  rest = is.rest;
  whole = ap (λ (t : List ℕ). byte ∷ t) is.whole;
  is_gap = (gap, is.is_gap);
  is_number = is.is_number;
  item_is = is.item_is;
  ends = is.ends;
  goes = is.goes;
}

digit_is : (byte : ℕ) → is_ascii_digit byte ≡ true → (digit_value byte ≡ byte - 48) × (digit_value byte < 10)
digit_is byte digit = grind (arith, common_steps)

digit_fits : (negative : Bool) (digit : ℕ) → digit < 10 → digit ≤ largest negative
digit_fits false digit small = omega arith
digit_fits true digit small = omega arith

-- a digit begins a number
number_begins : (byte : ℕ) (negative : Bool) → is_ascii_digit byte ≡ true
    → IsNumber negative (byte - 48) (cond negative (45 ∷ byte ∷ []) (byte ∷ []))
number_begins byte negative digit =
    let is = digit_is byte digit in
    record {
      digits = byte ∷ [];
      whole = refl;
      numeral = (omega arith, (is.1, tt));
      value = omega (arith, is.0);
      in_range = digit_fits negative (byte - 48) (omega (arith, is.0, is.1));
    }

-- and goes on with one
number_goes : (byte : ℕ) (negative : Bool) (magnitude : ℕ) (front : List ℕ) → is_ascii_digit byte ≡ true
    → magnitude * 10 + (byte - 48) ≤ largest negative → IsNumber negative magnitude front
    → IsNumber negative (magnitude * 10 + (byte - 48)) (front ++ byte ∷ [])
number_goes byte negative magnitude front digit fits number =
    let is = digit_is byte digit in
    record {
      digits = number.digits ++ byte ∷ [];
      whole = ap (λ (t : List ℕ). t ++ byte ∷ []) number.whole ∙ either negative;
      numeral = (grind (arith, common_steps), digits_push 10 number.digits byte number.numeral.1 is.1);
      value = omega (arith, digits_value_push 10 number.digits byte, number.value, is.0);
      in_range = fits;
    }
  where
    either : (b : Bool) → cond b (45 ∷ number.digits) number.digits ++ byte ∷ []
        ≡ cond b (45 ∷ (number.digits ++ byte ∷ [])) (number.digits ++ byte ∷ [])
    either true = refl
    either false = refl

step : (byte : ℕ) (token : Token) (front : List ℕ) (r : Reading) → r.fault ≡ None → r.token ≡ token
    → IsFront token front
    → Goes byte front r
step byte token front r going is front_is = elim (cases_Bool (is_separator byte)) as (λ _. Goes byte front r) [
  | inl gap ↦ on_gap gap token is front_is
  | inr word ↦ elim (cases_Bool (byte == 45)) as (λ _. Goes byte front r) [
    | inl minus ↦ on_minus word minus token is front_is
    | inr other ↦ elim (cases_Bool (is_ascii_digit byte)) as (λ _. Goes byte front r) [
      | inl digit ↦ on_digit word other digit token is front_is
      | inr wrong ↦ inl (grind (arith, common_steps))
    ]
  ]
]
  where
    on_gap : is_separator byte ≡ true → (token : Token) → r.token ≡ token → IsFront token front → Goes byte front r
    on_gap gap Between is front_is =
        let token : (read_byte byte r).token ≡ Between = grind (arith, common_steps) in
        inr record {
          next = [];
          added = [];
          is_front = subst (λ (t : Token). IsFront t []) (sym token) refl;
          items_are = grind (arith, common_steps);
          goes = λ rest items text. rw front_is (gap_first byte items rest gap text);
        }
    on_gap gap Minus is front_is = inl (grind (arith, common_steps))
    on_gap gap (Digits negative magnitude) is front_is =
        let token : (read_byte byte r).token ≡ Between = grind (arith, common_steps) in
        inr record {
          next = [];
          added = signed negative magnitude ∷ [];
          is_front = subst (λ (t : Token). IsFront t []) (sym token) refl;
          items_are = grind (arith, common_steps);
          goes = λ rest items text. record {
            gap = [];
            negative = negative;
            magnitude = magnitude;
            number = front;
            byte = byte;
            rest = rest;
            whole = refl;
            is_gap = tt;
            is_number = front_is;
            item_is = refl;
            ends = gap;
            goes = text;
          };
        }

    on_minus : is_separator byte ≡ false → (byte == 45) ≡ true → (token : Token) → r.token ≡ token → IsFront token front
        → Goes byte front r
    on_minus word minus Between is front_is =
        let token : (read_byte byte r).token ≡ Minus = grind (arith, common_steps) in
        inr record {
          next = 45 ∷ [];
          added = [];
          is_front = subst (λ (t : Token). IsFront t (45 ∷ [])) (sym token) refl;
          items_are = grind (arith, common_steps);
          goes = λ rest items text. rw (front_is, eqb-true byte 45 minus) text;
        }
    on_minus word minus Minus is front_is = inl (grind (arith, common_steps))
    on_minus word minus (Digits negative magnitude) is front_is = inl (grind (arith, common_steps))

    on_digit : is_separator byte ≡ false → (byte == 45) ≡ false → is_ascii_digit byte ≡ true → (token : Token)
        → r.token ≡ token
        → IsFront token front → Goes byte front r
    on_digit word other digit Between is front_is =
        let token : (read_byte byte r).token ≡ Digits false (byte - 48) = grind (arith, common_steps) in
        inr record {
          next = byte ∷ [];
          added = [];
          is_front = subst (λ (t : Token). IsFront t (byte ∷ [])) (sym token) (number_begins byte false digit);
          items_are = grind (arith, common_steps);
          goes = λ rest items text. rw front_is text;
        }
    on_digit word other digit Minus is front_is =
        let token : (read_byte byte r).token ≡ Digits true (byte - 48) = grind (arith, common_steps) in
        inr record {
          next = 45 ∷ byte ∷ [];
          added = [];
          is_front = subst (λ (t : Token). IsFront t (45 ∷ byte ∷ [])) (sym token) (number_begins byte true digit);
          items_are = grind (arith, common_steps);
          goes = λ rest items text. rw front_is text;
        }
    on_digit word other digit (Digits negative magnitude) is front_is =
        elim (cases_Bool (nat_le (magnitude * 10 + (byte - 48)) (largest negative))) as (λ _. Goes byte front r) [
          | inl fits ↦
              let token : (read_byte byte r).token ≡ Digits negative (magnitude * 10 + (byte - 48)) =
              grind (arith, common_steps) in
              inr record {
                next = front ++ byte ∷ [];
                added = [];
                is_front = subst (λ (t : Token). IsFront t (front ++ byte ∷ [])) (sym token)
                    (number_goes byte negative magnitude front digit (leb-true _ _ fits) front_is);
                items_are = grind (arith, common_steps);
                goes = λ rest items text. subst (λ (t : List ℕ). IsItemsText items t)
                    (append_assoc front (byte ∷ []) rest) text;
              }
          | inr large ↦ inl (grind (arith, common_steps))
        ]

-- the items that were read
pub record Read (text : List ℕ) (before all : List ℤ) : Type 0 where
  pub items : List ℤ
  pub all_are : all ≡ before ++ items
  pub is_text : IsItemsText items text

pub text_is_read : (bytes : List ℕ) (token : Token) (front : List ℕ) (r : Reading) → r.token ≡ token
    → IsFront token front
    → (read_bytes bytes r).token ≡ Between → (read_bytes bytes r).fault ≡ None
    → Read (front ++ bytes) r.items (read_bytes bytes r).items
text_is_read [] Between front r is front_is ends going =
    record { items = []; all_are = sym (append-nil r.items); is_text = rw front_is tt }
text_is_read [] Minus front r is front_is ends going = absurd (cc)
text_is_read [] (Digits negative magnitude) front r is front_is ends going = absurd (cc)
text_is_read (byte ∷ bytes) token front r is front_is ends going =
    elim (cases_Bool (is_some r.fault)) as (λ _. Read (front ++ byte ∷ bytes) r.items
    (read_bytes (byte ∷ bytes) r).items) [
      | inl stopped ↦ absurd (grind (arith, common_steps, read_bytes-stopped (byte ∷ bytes) r stopped))
      | inr goes ↦ by (λ (s : Step byte front r).
          text_is_read bytes (read_byte byte r).token s.next (read_byte byte r) refl s.is_front ends)
          (step byte token front r (grind (arith, common_steps)) is front_is)
    ]
  where
    by : ((s : Step byte front r) → (read_bytes bytes (read_byte byte r)).fault ≡ None
        → Read (s.next ++ bytes) (read_byte byte r).items (read_bytes bytes (read_byte byte r)).items)
        → Goes byte front r → Read (front ++ byte ∷ bytes) r.items (read_bytes (byte ∷ bytes) r).items
    by further (inl stopped) = absurd (grind (arith, common_steps, read_bytes-stopped bytes (read_byte byte r) stopped))
    by further (inr s) =
        let later : Read (s.next ++ bytes) (read_byte byte r).items (read_bytes bytes (read_byte byte r)).items =
        further s going in
        record {
          items = s.added ++ later.items;
          all_are =
              later.all_are
              ∙ (ap (λ (x : List ℤ). x ++ later.items) s.items_are ∙ append_assoc r.items s.added later.items);
          is_text = s.goes bytes later.items later.is_text;
        }
