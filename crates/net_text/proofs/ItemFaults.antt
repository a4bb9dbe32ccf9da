-- Where reading the items of a line fails: at the first byte with which no items go on.
use Rattle.std.proofs.Common.{◌≡◌, ℕ, zero, suc, ◌+◌, ◌^◌, ◌<◌, ◌≤◌, ◌⊎◌, inl, inr, Bool, true, false, cond, ltb, leb}
use Rattle.std.proofs.Common.{List, [], ◌∷◌, ◌++◌, length, take, drop, get_or, Result, Ok, Err, ℤ, pos, neg_ℤ, refl}
use Rattle.std.proofs.Common.{sym, ap, subst, ◌∙◌, arith, rules, append_assoc, length-append, length-take, length-drop}
use Rattle.std.proofs.Common.{take-append-drop}
use Rattle.std.specs.Prelude.{◌==◌}
use Rattle.std.specs.List.{list_all}
use Rattle.std.specs.Char.{is_ascii_digit}
use Rattle.std.specs.Str.Parse.{digits_value}
use Rattle.std.proofs.lemmas.Bool.{and_parts, eqb-true, eqb-false, ne_eqb, both_ways, lt-ltb, le-leb, ltb-true}
use Rattle.std.proofs.lemmas.Bool.{leb-true}
use Rattle.std.proofs.lemmas.List.{append-nil, drop_at, take_all, drop_all, get_or-take}
use Rattle.std.proofs.lemmas.Str.Parse.{IsNumeralModel, numerals_by_value, digits_value_short, digits_value-take-le}
use Rattle.net_text.specs.Numbers.{numeral_value}
use Rattle.net_text.specs.InputLines.{is_space, ends_in_digit, IsItem}
use Rattle.net_text.specs.InputReading.{run, signed, item_in, item_at, items_at}
use Rattle.net_text.proofs.Runs.{run_le, run_all, run_stops, run_whole}
use Rattle.net_text.proofs.Lexemes.{digit_bounds, passes_at}
use Rattle.net_text.proofs.Items.{item_shortens, items_turn, with_item}
use Rattle.net_text.proofs.Sequences.{same_value, went_on}
use Rattle.net_text.proofs.InputLaws.{run_append, item_took, item_again, item_begins, items_begin, items_took, err_is}
use Rattle.net_text.proofs.InputLaws.{no_fault, bind_err}
use Rattle.net_text.specs.declared.fault.TextFault.{TextFault}
use Rattle.net_text.specs.declared.fault.TextFault.TheVariants.{NoMemory, BadToken, Unexpected, NumberRange, TooLong}
use Rattle.net_text.specs.Results.{◌>>=◌}

-- ---- where a reader fails

-- It fails at this byte, whatever follows it, and what lies before the byte may go on.
pub record StuckAt {A : Type 0} (read : List ℕ → Result A TextFault) (bytes front : List ℕ) (byte : ℕ) : Type 0 where
  pub rest : List ℕ
  pub parts : bytes ≡ front ++ byte ∷ rest
  pub more : List ℕ
  pub found : A
  pub goes : read (front ++ more) ≡ Ok found
  pub never : (other : List ℕ) (x : A) → read (front ++ byte ∷ other) ≡ Ok x → ⊥

-- It fails at the end, behind a minus, and may go on.
pub record MinusAt {A : Type 0} (read : List ℕ → Result A TextFault) (bytes : List ℕ) : Type 0 where
  pub front : List ℕ
  pub parts : bytes ≡ front ++ 45 ∷ []
  pub more : List ℕ
  pub found : A
  pub goes : read (bytes ++ more) ≡ Ok found

-- at a byte that isn't one more digit
unfoldable pub BadAt : {A : Type 0} → (List ℕ → Result A TextFault) → List ℕ → Type 0
BadAt read bytes =
    (front : List ℕ) × (byte : ℕ) × StuckAt read bytes front byte
    × ((is_ascii_digit byte ≡ false) ⊎ (ends_in_digit front ≡ false))

-- at one more digit
unfoldable pub OutAt : {A : Type 0} → (List ℕ → Result A TextFault) → List ℕ → Type 0
OutAt read bytes =
    (front : List ℕ) × (byte : ℕ) × StuckAt read bytes front byte × (is_ascii_digit byte ≡ true)
    × (ends_in_digit front ≡ true)

unfoldable pub FaultAt : {A : Type 0} → (List ℕ → Result A TextFault) → List ℕ → TextFault → Type 0
FaultAt read bytes NoMemory = ⊥
FaultAt read bytes (BadToken line) = BadAt read bytes ⊎ MinusAt read bytes
FaultAt read bytes (Unexpected line) = ⊥
FaultAt read bytes (NumberRange line) = OutAt read bytes
FaultAt read bytes (TooLong line) = ⊥

-- the last byte of what follows counts
pub ends_later : (xs : List ℕ) (y : ℕ) (ys : List ℕ) → ends_in_digit (xs ++ y ∷ ys) ≡ ends_in_digit (y ∷ ys)
ends_later [] y ys = refl
ends_later (x ∷ []) y ys = refl
ends_later (x ∷ (z ∷ xs)) y ys = ends_later (z ∷ xs) y ys

pub ends_plain : (xs ys : List ℕ) → ends_in_digit ys ≡ true → ends_in_digit (xs ++ ys) ≡ true
ends_plain xs [] e = absurd cc
ends_plain xs (y ∷ ys) e = ends_later xs y ys ∙ e

-- A reader that reads so much and then as another does: what fails there fails here.
module _ {A B : Type 0} (outer : List ℕ → Result B TextFault) (inner : List ℕ → Result A TextFault) (pre t : List ℕ)
    (up : (s : List ℕ) (x : A) → inner s ≡ Ok x → (y : B) × (outer (pre ++ s) ≡ Ok y))
    (down : (s : List ℕ) (y : B) → get_or s 0 0 ≡ get_or t 0 0 → 0 < length s → outer (pre ++ s) ≡ Ok y
    → (x : A) × (inner s ≡ Ok x)) where
  first_same : (front : List ℕ) (byte : ℕ) (rest other : List ℕ) → t ≡ front ++ byte ∷ rest
      → get_or (front ++ byte ∷ other) 0 0 ≡ get_or t 0 0
  first_same [] byte rest other e = ap (λ (s : List ℕ). get_or s 0 0) (sym e)
  first_same (b ∷ front) byte rest other e = ap (λ (s : List ℕ). get_or s 0 0) (sym e)

  some_left : (front : List ℕ) (byte : ℕ) (other : List ℕ) → 0 < length (front ++ byte ∷ other)
  some_left [] byte other = omega arith
  some_left (b ∷ front) byte other = omega arith

  pub lift_stuck : (front : List ℕ) (byte : ℕ) → StuckAt inner t front byte
      → StuckAt outer (pre ++ t) (pre ++ front) byte
  lift_stuck front byte s =
      let y = up (front ++ s.more) s.found s.goes in
      record {
        rest = s.rest;
        parts = ap (λ (u : List ℕ). pre ++ u) s.parts ∙ simp append_assoc;
        more = s.more;
        found = y.0;
        goes = ap outer (simp append_assoc) ∙ y.1;
        never = λ other x e.
            let d = down (front ++ byte ∷ other) x (first_same front byte s.rest other s.parts)
            (some_left front byte other) (ap outer (simp append_assoc) ∙ e) in
            s.never other d.0 d.1;
      }

  pub lift_minus : MinusAt inner t → MinusAt outer (pre ++ t)
  lift_minus m =
      let y = up (t ++ m.more) m.found m.goes in
      record {
        front = pre ++ m.front;
        parts = ap (λ (u : List ℕ). pre ++ u) m.parts ∙ simp append_assoc;
        more = m.more;
        found = y.0;
        goes = ap outer (simp append_assoc) ∙ y.1;
      }

  pub edge_kind : ((is_ascii_digit (get_or t 0 0) ≡ false) ⊎ (ends_in_digit pre ≡ false))
      → (front : List ℕ) (byte : ℕ) (rest : List ℕ) → t ≡ front ++ byte ∷ rest
      → (is_ascii_digit byte ≡ false) ⊎ (ends_in_digit front ≡ false)
      → (is_ascii_digit byte ≡ false) ⊎ (ends_in_digit (pre ++ front) ≡ false)
  edge_kind edge [] byte rest e k =
      elim edge as (λ _. (is_ascii_digit byte ≡ false) ⊎ (ends_in_digit (pre ++ []) ≡ false)) [
        | inl other ↦ inl (ap (λ (s : List ℕ). is_ascii_digit (get_or s 0 0)) (sym e) ∙ other)
        | inr other ↦ inr (ap ends_in_digit (append-nil pre) ∙ other)
      ]
  edge_kind edge (b ∷ front) byte rest e (inl other) = inl other
  edge_kind edge (b ∷ front) byte rest e (inr other) = inr (ends_later pre b front ∙ other)

  pub lift : ((is_ascii_digit (get_or t 0 0) ≡ false) ⊎ (ends_in_digit pre ≡ false)) → (f : TextFault)
      → FaultAt inner t f → FaultAt outer (pre ++ t) f
  unfolding FaultAt BadAt OutAt
  lift edge NoMemory h = h
  lift edge (BadToken line) (inl bad) =
      inl (pre ++ bad.0, bad.1, lift_stuck bad.0 bad.1 bad.2, edge_kind edge bad.0 bad.1 bad.2.rest bad.2.parts bad.3)
  lift edge (BadToken line) (inr minus) = inr (lift_minus minus)
  lift edge (Unexpected line) h = h
  lift edge (NumberRange line) out =
      (pre ++ out.0, out.1, lift_stuck out.0 out.1 out.2, out.3, ends_plain pre out.0 out.4)
  lift edge (TooLong line) h = h

-- ---- an item

-- the item's number is within the signed 64 bits
fits : Bool → ℕ → Bool
fits true n = leb n (2 ^ 63)
fits false n = ltb n (2 ^ 63)

item_of : Bool → ℕ → ℤ
item_of true n = neg_ℤ (pos n)
item_of false n = pos n

signed_is : (minus : Bool) (n line : ℕ)
    → signed minus n line ≡ cond (fits minus n) (Ok (item_of minus n)) (Err (NumberRange line))
unfolding fits item_of
signed_is true n line = refl
signed_is false n line = refl

fits_less : (minus : Bool) (n m : ℕ) → n ≤ m → fits minus m ≡ true → fits minus n ≡ true
unfolding fits
fits_less true n m le h = let k = leb-true m (2 ^ 63) h in le-leb n (2 ^ 63) (omega arith)
fits_less false n m le h = let k = ltb-true m (2 ^ 63) h in lt-ltb n (2 ^ 63) (omega arith)

fits_small : (minus : Bool) (n : ℕ) → n < 10 → fits minus n ≡ true
unfolding fits
fits_small true n lt = le-leb n (2 ^ 63) (omega arith)
fits_small false n lt = lt-ltb n (2 ^ 63) (omega arith)

abbrev with_rest : List ℕ → ℤ → Result (ℤ × List ℕ) TextFault
with_rest rest v = Ok (v, rest)

-- the digits at the front as a number with a sign, and what follows them
number_at : Bool → ℕ → List ℕ → Result (ℤ × List ℕ) TextFault
number_at minus line bytes =
    cond (run is_ascii_digit bytes == 0) (Err (BadToken line))
    (signed minus (numeral_value (take (run is_ascii_digit bytes) bytes)) line >>= λ v. Ok
    (v, drop (run is_ascii_digit bytes) bytes))

-- an item behind a minus, and one without
item_left : (line : ℕ) (minus : Bool) (sign digits : ℕ) (bytes rest : List ℕ) → drop (sign + digits) bytes ≡ rest
    → item_in line minus sign digits bytes
    ≡ cond (digits == 0) (Err (BadToken line))
    (signed minus (numeral_value (take digits (drop sign bytes))) line >>= λ v. Ok (v, rest))
item_left line minus sign digits bytes rest e = rw e refl

item_minus : (line : ℕ) (bytes : List ℕ) → item_at line (45 ∷ bytes) ≡ number_at true line bytes
unfolding item_at number_at
item_minus line bytes =
    let n = run is_ascii_digit bytes in
    let e : 1 + n ≡ suc n = omega arith in
    item_left line true 1 n (45 ∷ bytes) (drop n bytes) (ap (λ (m : ℕ). drop m (45 ∷ bytes)) e)

item_plain : (line : ℕ) (bytes : List ℕ) → (get_or bytes 0 0 == 45) ≡ false
    → item_at line bytes ≡ number_at false line bytes
unfolding item_at number_at
item_plain line bytes unsigned =
    let n = run is_ascii_digit bytes in
    let e : 0 + n ≡ n = omega arith in
    rw unsigned (item_left line false 0 n bytes (drop n bytes) (ap (λ (m : ℕ). drop m bytes) e))

-- such a reader and the items behind it
abbrev then_items : ℕ → Result (ℤ × List ℕ) TextFault → Result (List ℤ) TextFault
then_items line read = read >>= λ x. with_item x.0 (items_at line x.1)

no_err : {A : Type 0} (f : TextFault) (x : A) → (let left : Result A TextFault = Err f in left ≡ Ok x) → ⊥
no_err f x e = cc

no_items_left : (line : ℕ) → items_at line [] ≡ Ok []
unfolding items_at
no_items_left line = refl

-- where a test turns from true to false
crossing : (p : ℕ → Bool) (n : ℕ) → p 1 ≡ true → p n ≡ false → 1 ≤ n
    → (k : ℕ) × (1 ≤ k) × (k < n) × (p k ≡ true) × (p (suc k) ≡ false)
crossing p zero first last le = absurd (omega arith)
crossing p (suc zero) first last le = absurd (both_ways (p 1) last first)
crossing p (suc (suc n)) first last le = at_last (p (suc n)) refl (λ e. crossing p (suc n) first e (omega arith))
  where
    at_last : (b : Bool) → p (suc n) ≡ b
        → (p (suc n) ≡ false → (k : ℕ) × (1 ≤ k) × (k < suc n) × (p k ≡ true) × (p (suc k) ≡ false))
        → (k : ℕ) × (1 ≤ k) × (k < suc (suc n)) × (p k ≡ true) × (p (suc k) ≡ false)
    at_last true e earlier = (suc n, omega arith, omega arith, e, last)
    at_last false e earlier = let c = earlier e in (c.0, c.1, omega (arith, c.2), c.3, c.4)

own : IsNumeralModel (λ ds. list_all is_ascii_digit ds ≡ true) (digits_value 10)
own = numerals_by_value _ (search rules)

-- at least so many bytes pass
pub run_at_least : (p : ℕ → Bool) (j : ℕ) (bs : List ℕ) → j ≤ length bs → list_all p (take j bs) ≡ true → j ≤ run p bs
run_at_least p zero bs le all = omega arith
run_at_least p (suc j) [] le all = absurd (omega arith)
run_at_least p (suc j) (b ∷ bs) le all =
    let parts = and_parts (p b) (list_all p (take j bs)) all in
    let h = run_at_least p j bs (omega arith) parts.1 in
    rw parts.0 (omega arith)

pub all_front : (p : ℕ → Bool) (j : ℕ) (bs : List ℕ) → list_all p bs ≡ true → list_all p (take j bs) ≡ true
all_front p zero bs h = refl
all_front p (suc j) [] h = refl
all_front p (suc j) (b ∷ bs) h = let parts = and_parts (p b) (list_all p bs) h in rw parts.0 (all_front p j bs parts.1)

all_ends : (bs : List ℕ) → 0 < length bs → list_all is_ascii_digit bs ≡ true → ends_in_digit bs ≡ true
all_ends [] some h = absurd (omega arith)
all_ends (b ∷ []) some h = (and_parts (is_ascii_digit b) true h).0
all_ends (b ∷ (c ∷ bs)) some h =
    all_ends (c ∷ bs) (omega arith) (and_parts (is_ascii_digit b) (list_all is_ascii_digit (c ∷ bs)) h).1

-- a list, cut behind one of its bytes
pub cut_behind : (k : ℕ) (bs : List ℕ) → k < length bs → take (suc k) bs ≡ take k bs ++ get_or bs k 0 ∷ []
cut_behind k [] lt = absurd (omega arith)
cut_behind zero (b ∷ bs) lt = refl
cut_behind (suc k) (b ∷ bs) lt = ap (λ (xs : List ℕ). b ∷ xs) (cut_behind k bs (omega arith))

pub cut_at : (k : ℕ) (bs : List ℕ) → k < length bs → bs ≡ take k bs ++ get_or bs k 0 ∷ drop (suc k) bs
cut_at k [] lt = absurd (omega arith)
cut_at zero (b ∷ bs) lt = refl
cut_at (suc k) (b ∷ bs) lt = ap (λ (xs : List ℕ). b ∷ xs) (cut_at k bs (omega arith))

pub take_behind : (k : ℕ) (bs : List ℕ) (byte : ℕ) (other : List ℕ) → length bs ≡ k
    → take (suc k) (bs ++ byte ∷ other) ≡ bs ++ byte ∷ []
take_behind zero [] byte other e = refl
take_behind zero (b ∷ bs) byte other e = absurd (omega arith)
take_behind (suc k) [] byte other e = absurd (omega arith)
take_behind (suc k) (b ∷ bs) byte other e = ap (λ (xs : List ℕ). b ∷ xs) (take_behind k bs byte other (omega arith))

pub take_less : (j n : ℕ) (bs : List ℕ) → j ≤ n → take j (take n bs) ≡ take j bs
take_less zero n bs le = refl
take_less (suc j) zero bs le = absurd (omega arith)
take_less (suc j) (suc n) [] le = refl
take_less (suc j) (suc n) (b ∷ bs) le = ap (λ (xs : List ℕ). b ∷ xs) (take_less j n bs (omega arith))

-- digits alone are a number
number_whole : (minus : Bool) (line : ℕ) (bs : List ℕ) → 0 < length bs → list_all is_ascii_digit bs ≡ true
    → fits minus (numeral_value bs) ≡ true → number_at minus line bs ≡ Ok (item_of minus (numeral_value bs), [])
unfolding number_at
number_whole minus line bs some all fit =
    let len = run_whole is_ascii_digit bs all in
    let digits : (length bs == 0) ≡ false = ne_eqb (length bs) 0 (λ e. omega arith) in
    rw (len, digits, signed_is, take_all (length bs) bs (omega arith), fit, drop_all (length bs) bs (omega arith)) refl

-- a number whose first digits are out of range is refused
number_large : (minus : Bool) (line j : ℕ) (bs : List ℕ) → 0 < j → j ≤ length bs
    → list_all is_ascii_digit (take j bs) ≡ true → fits minus (numeral_value (take j bs)) ≡ false
    → number_at minus line bs ≡ Err (NumberRange line)
unfolding number_at
number_large minus line j bs some le all large =
    let n = run is_ascii_digit bs in
    let more = run_at_least is_ascii_digit j bs le all in
    let digits : (n == 0) ≡ false = ne_eqb n 0 (λ e. omega arith) in
    let grows : numeral_value (take j bs) ≤ numeral_value (take n bs) =
    subst (λ (ds : List ℕ). numeral_value ds ≤ numeral_value (take n bs)) (take_less j n bs (omega arith))
    (digits_value-take-le 10 (take n bs) j (omega arith)) in
    let out : fits minus (numeral_value (take n bs)) ≡ false =
    not_fits (fits minus (numeral_value (take n bs))) refl grows in
    rw (digits, signed_is, out) refl
  where
    not_fits : (b : Bool) → fits minus (numeral_value (take (run is_ascii_digit bs) bs)) ≡ b
        → numeral_value (take j bs) ≤ numeral_value (take (run is_ascii_digit bs) bs)
        → fits minus (numeral_value (take (run is_ascii_digit bs) bs)) ≡ false
    not_fits true e le = absurd (both_ways (fits minus (numeral_value (take j bs))) large (fits_less minus _ _ le e))
    not_fits false e le = e

-- a number alone, with the items behind it
abbrev numbers_at : Bool → ℕ → List ℕ → Result (List ℤ) TextFault
numbers_at minus line bytes = then_items line (number_at minus line bytes)

numbers_whole : (minus : Bool) (line : ℕ) (bs : List ℕ) → 0 < length bs → list_all is_ascii_digit bs ≡ true
    → fits minus (numeral_value bs) ≡ true → numbers_at minus line bs ≡ Ok (item_of minus (numeral_value bs) ∷ [])
numbers_whole minus line bs some all fit = rw (number_whole minus line bs some all fit, no_items_left line) refl

numbers_no_digit : (minus : Bool) (line : ℕ) (byte : ℕ) (other : List ℕ) → is_ascii_digit byte ≡ false
    → numbers_at minus line (byte ∷ other) ≡ Err (BadToken line)
unfolding number_at
numbers_no_digit minus line byte other other_byte = rw other_byte refl

-- out of range: at the first digit that is too much
out_at : (minus : Bool) (line : ℕ) (t : List ℕ) (k : ℕ) → 1 ≤ k → k < run is_ascii_digit t
    → fits minus (numeral_value (take k t)) ≡ true → fits minus (numeral_value (take (suc k) t)) ≡ false
    → OutAt (numbers_at minus line) t
unfolding OutAt
out_at minus line t k some more small large =
    let n = run is_ascii_digit t in
    let le = run_le is_ascii_digit t in
    let len : length (take k t) ≡ k = let l = length-take k t in omega arith in
    let taken = length-take n t in
    let digits = front_digits k t (omega arith) in
    let digit : is_ascii_digit (get_or t k 0) ≡ true =
    ap is_ascii_digit (sym (get_or-take n t k 0 more))
    ∙ passes_at is_ascii_digit (take n t) k (run_all is_ascii_digit t) (omega arith) in (
      take k t,
      get_or t k 0,
      record {
        rest = drop (suc k) t;
        parts = cut_at k t (omega arith);
        more = [];
        found = item_of minus (numeral_value (take k t)) ∷ [];
        goes = ap (numbers_at minus line) (append-nil (take k t))
            ∙ numbers_whole minus line (take k t) (omega arith) digits small;
        never = λ other x e. no_err (NumberRange line) x
            (sym (ap (then_items line)
            (refused (take k t) (get_or t k 0) other len (cut_behind k t (omega arith))
            (front_digits (suc k) t (omega arith)))) ∙ e);
      },
      digit,
      all_ends (take k t) (omega arith) digits,
    )
  where
    front_digits : (j : ℕ) (t : List ℕ) → j ≤ run is_ascii_digit t → list_all is_ascii_digit (take j t) ≡ true
    front_digits j t le =
        subst (λ (ds : List ℕ). list_all is_ascii_digit ds ≡ true) (take_less j (run is_ascii_digit t) t le)
        (all_front is_ascii_digit j (take (run is_ascii_digit t) t) (run_all is_ascii_digit t))

    refused : (front : List ℕ) (byte : ℕ) (other : List ℕ) → length front ≡ k → take (suc k) t ≡ front ++ byte ∷ []
        → list_all is_ascii_digit (take (suc k) t) ≡ true
        → number_at minus line (front ++ byte ∷ other) ≡ Err (NumberRange line)
    refused front byte other len is digits =
        let same : take (suc k) (front ++ byte ∷ other) ≡ take (suc k) t =
        take_behind k front byte other len ∙ sym is in
        let whole = length-append front (byte ∷ other) in
        number_large minus line (suc k) (front ++ byte ∷ other) (omega arith) (omega arith)
        (ap (list_all is_ascii_digit) same ∙ digits)
        (ap (λ (ds : List ℕ). fits minus (numeral_value ds)) same ∙ large)

number_out : (minus : Bool) (line : ℕ) (t : List ℕ) → 0 < run is_ascii_digit t
    → fits minus (numeral_value (take (run is_ascii_digit t) t)) ≡ false → OutAt (numbers_at minus line) t
number_out minus line t some large =
    let n = run is_ascii_digit t in
    let one_digit =
    subst (λ (ds : List ℕ). list_all is_ascii_digit ds ≡ true) (take_less 1 n t some)
    (all_front is_ascii_digit 1 (take n t) (run_all is_ascii_digit t)) in
    let l = length-take 1 t in
    let one : fits minus (numeral_value (take 1 t)) ≡ true =
    fits_small minus (numeral_value (take 1 t)) (digits_value_short own (take 1 t) 1 one_digit (omega arith)) in
    let c = crossing (λ k. fits minus (numeral_value (take k t))) n one large some in
    out_at minus line t c.0 c.1 c.2 c.3 c.4

number_fault : (minus : Bool) (line : ℕ) (t : List ℕ) (f : TextFault) → 0 < length t → number_at minus line t ≡ Err f
    → FaultAt (numbers_at minus line) t f
unfolding FaultAt BadAt number_at
number_fault minus line [] f some e = absurd (omega arith)
number_fault minus line (b ∷ t) f some e = by_digit (is_ascii_digit b) refl
  where
    refused : {A : Type 0} (c : Bool) (g : TextFault) (v : ℤ) (next : ℤ → Result A TextFault)
        → ((x : ℤ) (h : TextFault) → next x ≡ Err h → ⊥) → (cond c (Ok v) (Err g) >>= next) ≡ Err f
        → (c ≡ false) × (g ≡ f)
    refused true g v next never e = absurd (never v f e)
    refused false g v next never e = (refl, err_is g f e)

    by_digit : (c : Bool) → is_ascii_digit b ≡ c → FaultAt (numbers_at minus line) (b ∷ t) f
    by_digit true digit =
        let n = run is_ascii_digit (b ∷ t) in
        let positive : 0 < n = rw digit (omega arith) in
        let digits : (n == 0) ≡ false = ne_eqb n 0 (λ e. omega arith) in
        let whole : (cond (fits minus (numeral_value (take n (b ∷ t))))
        (Ok (item_of minus (numeral_value (take n (b ∷ t))))) (Err (NumberRange line)) >>= with_rest
        (drop n (b ∷ t))) ≡ Err f =
        rw (← signed_is minus (numeral_value (take n (b ∷ t))) line)
        (subst (λ (c : Bool). cond c (Err (BadToken line))
        (signed minus (numeral_value (take n (b ∷ t))) line >>= with_rest (drop n (b ∷ t))) ≡ Err f) digits e) in
        let out =
        refused (fits minus (numeral_value (take n (b ∷ t)))) (NumberRange line)
        (item_of minus (numeral_value (take n (b ∷ t)))) (with_rest (drop n (b ∷ t)))
        (λ x h i. no_fault (x, drop n (b ∷ t)) h i) whole in
        subst (FaultAt (numbers_at minus line) (b ∷ t)) out.1 (number_out minus line (b ∷ t) positive out.0)
    by_digit false other =
        let is : BadToken line ≡ f = err_is (BadToken line) f (sym (rw other refl) ∙ e) in
        subst (FaultAt (numbers_at minus line) (b ∷ t)) is (inl (
          [],
          b,
          record {
            rest = t;
            parts = refl;
            more = 48 ∷ [];
            found = item_of minus 0 ∷ [];
            goes = numbers_whole minus line (48 ∷ []) (omega arith) refl (fits_small minus 0 (omega arith));
            never = λ more x i. no_err (BadToken line) x (sym (numbers_no_digit minus line b more other) ∙ i);
          },
          inl other,
        ))

-- ---- an item, and the items behind it

one_item : ℕ → List ℕ → Result (List ℤ) TextFault
one_item line bytes = then_items line (item_at line bytes)

-- it begins with a digit or a minus
one_item_first : (line : ℕ) (bytes : List ℕ) (x : List ℤ) → one_item line bytes ≡ Ok x
    → (0 < length bytes) × (is_space (get_or bytes 0 0) ≡ false)
unfolding one_item
one_item_first line bytes x e =
    let a = went_on (item_at line bytes) (λ y. with_item y.0 (items_at line y.1)) x e in
    let item = item_took line bytes a.0 a.1 in
    let begins = item_begins item.item a.0.0 a.0.1 item.is in
    let l = ap length item.parts ∙ length-append item.item a.0.1 in
    (omega (arith, begins.1), ap (λ (s : List ℕ). is_space (get_or s 0 0)) item.parts ∙ begins.0)

numbers_first : (minus : Bool) (line : ℕ) (s : List ℕ) (x : List ℤ) → numbers_at minus line s ≡ Ok x
    → (get_or s 0 0 == 45) ≡ false
unfolding number_at
numbers_first minus line [] x e = refl
numbers_first minus line (b ∷ s) x e = by_digit (is_ascii_digit b) refl
  where
    by_digit : (c : Bool) → is_ascii_digit b ≡ c → (b == 45) ≡ false
    by_digit true digit = let d = digit_bounds b digit in ne_eqb b 45 (λ h. omega arith)
    by_digit false other = absurd (no_err (BadToken line) x (sym (numbers_no_digit minus line b s other) ∙ e))

one_item_fault : (line : ℕ) (bytes : List ℕ) (f : TextFault) → 0 < length bytes → item_at line bytes ≡ Err f
    → FaultAt (one_item line) bytes f
unfolding FaultAt one_item number_at
one_item_fault line [] f some e = absurd (omega arith)
one_item_fault line (b ∷ t) f some e = by_minus (b == 45) refl
  where
    behind : (t : List ℕ) → item_at line (45 ∷ t) ≡ Err f → FaultAt (one_item line) (45 ∷ t) f
    behind [] e =
        let is : BadToken line ≡ f = err_is (BadToken line) f (sym (item_minus line []) ∙ e) in
        subst (FaultAt (one_item line) (45 ∷ [])) is (inr (record {
          front = [];
          parts = refl;
          more = 48 ∷ [];
          found = item_of true 0 ∷ [];
          goes = ap (then_items line) (item_minus line (48 ∷ []))
              ∙ numbers_whole true line (48 ∷ []) (omega arith) refl (fits_small true 0 (omega arith));
        }))
    behind (c ∷ u) e =
        lift (one_item line) (numbers_at true line) (45 ∷ []) (c ∷ u)
        (λ s x h. (x, ap (then_items line) (item_minus line s) ∙ h))
        (λ s y same more h. (y, ap (then_items line) (sym (item_minus line s)) ∙ h))
        (inr refl) f (number_fault true line (c ∷ u) f (omega arith) (sym (item_minus line (c ∷ u)) ∙ e))

    by_minus : (c : Bool) → (b == 45) ≡ c → FaultAt (one_item line) (b ∷ t) f
    by_minus true minus =
        let is = eqb-true b 45 minus in
        subst (λ (m : ℕ). FaultAt (one_item line) (m ∷ t) f) (sym is)
        (behind t (ap (λ (m : ℕ). item_at line (m ∷ t)) (sym is) ∙ e))
    by_minus false plain =
        lift (one_item line) (numbers_at false line) [] (b ∷ t)
        (λ s x h. (x, ap (then_items line) (item_plain line s (numbers_first false line s x h)) ∙ h))
        (λ s y same more
        h. (y, ap (then_items line) (sym (item_plain line s (ap (λ (m : ℕ). m == 45) same ∙ plain))) ∙ h))
        (inr refl) f (number_fault false line (b ∷ t) f some (sym (item_plain line (b ∷ t) plain) ∙ e))

-- ---- items, each behind spaces

gap_items : (line : ℕ) (gap t : List ℕ) → 0 < length gap → list_all is_space gap ≡ true → 0 < length t
    → is_space (get_or t 0 0) ≡ false → items_at line (gap ++ t) ≡ one_item line t
unfolding one_item
gap_items line gap t gap_some spaces some first =
    let len : run is_space (gap ++ t) ≡ length gap = run_append is_space gap t spaces first in
    let whole = length-append gap t in
    items_turn line (gap ++ t) (λ h. omega arith) (λ h. omega arith)
    ∙ ap (λ (s : List ℕ). then_items line (item_at line s))
    (ap (λ (k : ℕ). drop k (gap ++ t)) len ∙ drop_at gap t (length gap) refl)

-- behind an item the items that follow are read
behind_item : (line : ℕ) (gap item t : List ℕ) (v : ℤ) → 0 < length gap → list_all is_space gap ≡ true → IsItem item v
    → is_ascii_digit (get_or t 0 0) ≡ false → items_at line (gap ++ (item ++ t)) ≡ with_item v (items_at line t)
unfolding one_item
behind_item line gap item t v gap_some spaces is stops =
    let begins = item_begins item v t is in
    let whole = length-append item t in
    gap_items line gap (item ++ t) gap_some spaces (omega (arith, begins.1)) begins.0
    ∙ ap (then_items line) (item_again line item v t is stops)

pub spaces_end : (gap : List ℕ) → list_all is_space gap ≡ true → ends_in_digit gap ≡ false
spaces_end [] h = refl
spaces_end (b ∷ []) h = ap is_ascii_digit (eqb-true b 32 (and_parts (is_space b) true h).0)
spaces_end (b ∷ (c ∷ bs)) h = spaces_end (c ∷ bs) (and_parts (is_space b) (list_all is_space (c ∷ bs)) h).1

-- behind an item there is no digit
run_rest : (p : ℕ → Bool) (bs : List ℕ) → p 0 ≡ false → p (get_or (drop (run p bs) bs) 0 0) ≡ false
run_rest p [] none_at_end = none_at_end
run_rest p (b ∷ bs) none_at_end = at_head (p b) refl (run_rest p bs none_at_end)
  where
    at_head : (c : Bool) → p b ≡ c → p (get_or (drop (run p bs) bs) 0 0) ≡ false
        → p (get_or (drop (cond c (suc (run p bs)) 0) (b ∷ bs)) 0 0) ≡ false
    at_head true e later = later
    at_head false e later = e

number_rest : (minus : Bool) (line : ℕ) (bytes : List ℕ) (x : ℤ × List ℕ) → number_at minus line bytes ≡ Ok x
    → is_ascii_digit (get_or x.1 0 0) ≡ false
unfolding number_at
number_rest minus line bytes x e = by_digits (run is_ascii_digit bytes == 0) e
  where
    by_digits : (c : Bool)
        → cond c (Err (BadToken line))
        (signed minus (numeral_value (take (run is_ascii_digit bytes) bytes)) line >>= λ v. Ok
        (v, drop (run is_ascii_digit bytes) bytes)) ≡ Ok x → is_ascii_digit (get_or x.1 0 0) ≡ false
    by_digits true h = absurd (no_err (BadToken line) x h)
    by_digits false h =
        let a = went_on (signed minus (numeral_value (take (run is_ascii_digit bytes) bytes)) line)
        (λ v. Ok (v, drop (run is_ascii_digit bytes) bytes)) x h in
        let made : ℤ × List ℕ = (a.0, drop (run is_ascii_digit bytes) bytes) in
        ap (λ (y : ℤ × List ℕ). is_ascii_digit (get_or y.1 0 0)) (sym (same_value made x a.2))
        ∙ run_rest is_ascii_digit bytes refl

item_stops : (line : ℕ) (bytes : List ℕ) (x : ℤ × List ℕ) → item_at line bytes ≡ Ok x
    → is_ascii_digit (get_or x.1 0 0) ≡ false
item_stops line [] x e = number_rest false line [] x (sym (item_plain line [] refl) ∙ e)
item_stops line (b ∷ t) x e = by_minus (b == 45) refl
  where
    by_minus : (c : Bool) → (b == 45) ≡ c → is_ascii_digit (get_or x.1 0 0) ≡ false
    by_minus true minus =
        number_rest true line t x
        (sym (ap (λ (m : ℕ). item_at line (m ∷ t)) (eqb-true b 45 minus) ∙ item_minus line t) ∙ e)
    by_minus false plain = number_rest false line (b ∷ t) x (sym (item_plain line (b ∷ t) plain) ∙ e)

all_spaces : (line : ℕ) (bytes : List ℕ) → (run is_space bytes == length bytes) ≡ true → items_at line bytes ≡ Ok []
unfolding items_at
all_spaces line bytes all = rw all refl

-- a byte that is no space, at the front
no_gap : (line b : ℕ) (other : List ℕ) → is_space b ≡ false → items_at line (b ∷ other) ≡ Err (BadToken line)
unfolding items_at
no_gap line b other plain =
    let none_there : (run is_space (b ∷ other) == length (b ∷ other)) ≡ false =
    rw plain (ne_eqb 0 (suc (length other)) (λ h. omega arith)) in
    rw (none_there, plain) refl

pub items_fault : (line n : ℕ) (bytes : List ℕ) (f : TextFault) → length bytes < n → items_at line bytes ≡ Err f
    → FaultAt (items_at line) bytes f
unfolding FaultAt BadAt one_item
items_fault line zero bytes f lt e = absurd (omega arith)
items_fault line (suc n) bytes f lt e =
    by_gap (run is_space bytes == length bytes) (run is_space bytes == 0) refl refl
    (λ x read later. items_fault line n x.1 f
    (let less = item_shortens line (drop (run is_space bytes) bytes) x read in let l =
    length-drop (run is_space bytes) bytes in omega arith) later)
  where
    at_front : (bs : List ℕ) → run is_space bs ≡ 0 → (run is_space bs ≡ length bs → ⊥) → items_at line bs ≡ Err f
        → FaultAt (items_at line) bs f
    at_front [] none_there some h = absurd (some refl)
    at_front (b ∷ t) none_there some h =
        let plain : is_space b ≡ false =
        ap (λ (k : ℕ). is_space (get_or (b ∷ t) k 0)) (sym none_there) ∙ run_stops is_space (b ∷ t) (omega arith) in
        let is : BadToken line ≡ f = err_is (BadToken line) f (sym (no_gap line b t plain) ∙ h) in
        subst (FaultAt (items_at line) (b ∷ t)) is (inl (
          [],
          b,
          record {
            rest = t;
            parts = refl;
            more = [];
            found = [];
            goes = no_items_left line;
            never = λ other x i. no_err (BadToken line) x (sym (no_gap line b other plain) ∙ i);
          },
          inr refl,
        ))

    items_took_all : (run is_space bytes == length bytes) ≡ true → items_at line bytes ≡ Ok []
    items_took_all all = all_spaces line bytes all

    by_gap : (all no_one : Bool) → (run is_space bytes == length bytes) ≡ all → (run is_space bytes == 0) ≡ no_one
        → ((x : ℤ × List ℕ) → item_at line (drop (run is_space bytes) bytes) ≡ Ok x → items_at line x.1 ≡ Err f
        → FaultAt (items_at line) x.1 f) → FaultAt (items_at line) bytes f
    by_gap true no_one all is again = absurd (no_fault [] f (sym (items_took_all all) ∙ e))
    by_gap false true all is again = at_front bytes (eqb-true _ _ is) (eqb-false _ _ all) e
    by_gap false false all is again =
        let k = run is_space bytes in
        let gap = take k bytes in
        let t = drop k bytes in
        let ne_all = eqb-false _ _ all in
        let ne_none = eqb-false _ _ is in
        let le = run_le is_space bytes in
        let spaces = run_all is_space bytes in
        let gap_len = length-take k bytes in
        let t_len = length-drop k bytes in
        let gap_some : 0 < length gap = omega arith in
        let t_some : 0 < length t = omega arith in
        let first : is_space (get_or t 0 0) ≡ false = run_rest is_space bytes refl in
        let turn : (item_at line t >>= λ x. with_item x.0 (items_at line x.1)) ≡ Err f =
        sym (items_turn line bytes ne_all ne_none) ∙ e in
        elim (bind_err (item_at line t) (λ x. with_item x.0 (items_at line x.1)) f turn) as (λ _. FaultAt
        (items_at line) bytes f) [
          | inl bad ↦
              subst (λ (s : List ℕ). FaultAt (items_at line) s f) (take-append-drop k bytes)
              (lift (items_at line) (one_item line) gap t
              (λ s x h. let b = one_item_first line s x h in (x, gap_items line gap s gap_some spaces b.0 b.1 ∙ h))
              (λ s y same more h. (y, sym (gap_items line gap s gap_some spaces more (ap is_space same ∙ first)) ∙ h))
              (inr (spaces_end gap spaces)) f (one_item_fault line t f t_some bad))
          | inr good ↦
              let x = good.0 in
              let item = item_took line t x good.1 in
              let stops = item_stops line t x good.1 in
              let later =
              elim (bind_err (items_at line x.1) (λ others. Ok (x.0 ∷ others)) f good.2) as (λ _. items_at line x.1
              ≡ Err f) [ inl there ↦ there | inr never ↦ absurd (no_fault (x.0 ∷ never.0) f never.2) ] in
              let whole : (gap ++ item.item) ++ x.1 ≡ bytes =
              (simp append_assoc) ∙ ap (λ (s : List ℕ). gap ++ s) (sym item.parts) ∙ take-append-drop k bytes in
              subst (λ (s : List ℕ). FaultAt (items_at line) s f) whole
              (lift (items_at line) (items_at line) (gap ++ item.item) x.1
              (λ s vs h. (
                x.0 ∷ vs,
                ap (items_at line) (simp append_assoc)
                    ∙ behind_item line gap item.item s x.0 gap_some spaces item.is
                    (items_begin vs s (items_took line s vs h)) ∙ ap (with_item x.0) h,
              ))
              (λ s y same more h.
              let eq =
              ap (items_at line) (simp append_assoc)
              ∙ behind_item line gap item.item s x.0 gap_some spaces item.is (ap is_ascii_digit same ∙ stops) in
              let a = went_on (items_at line s) (λ others. Ok (x.0 ∷ others)) y (sym eq ∙ h) in
              (a.0, a.1))
              (inl stops) f (again x good.1 later))
        ]
