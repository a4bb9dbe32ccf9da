-- Bytes at the front that pass a test.
use Rattle.std.proofs.Common.{◌≡◌, ℕ, zero, suc, ◌+◌, ◌-◌, ◌^◌, ◌<◌, ◌≤◌, inl, inr, Bool, true, false, cond, List, []}
use Rattle.std.proofs.Common.{◌∷◌, length, take, drop, get_or, Result, Ok, Err, ℤ, pos, neg_ℤ, refl, sym, ap, subst}
use Rattle.std.proofs.Common.{◌∙◌, arith, rules, length-take}
use Rattle.std.proofs.lemmas.List.{take_all, get_or-take, drop-take}
use Rattle.std.specs.Prelude.{◌==◌, slice_index, MatchResult}
use Rattle.std.specs.List.{list_all}
use Rattle.std.specs.Int.{w64}
use Rattle.std.specs.Result.{OkIff}
use Rattle.std.specs.Char.{is_ascii_digit}
use Rattle.std.specs.Str.{IsCharBoundary, IsUtf8}
use Rattle.std.specs.Str.Parse.{ParsesSigned, digits_value}
use Rattle.std.proofs.lemmas.Bool.{and_parts, and_from, eqb-true, cases_lt, le-ltb, lt-ltb, lt-leb, le-leb, ne_eqb}
use Rattle.std.proofs.lemmas.Str.Parse.{IsNumeralModel, numerals_by_value, parse_signed_digits, parse_signed_minus}
use Rattle.net_text.specs.Numbers.{numeral_value}
use Rattle.net_text.specs.InputReading.{run, signed, sign_len, item_in, item_at}
use Rattle.net_text.proofs.Lexemes.{numeral_from_run, passes_at}
use Rattle.std.proofs.lemmas.Str.{IsCharBoundary-after_ascii}
use Rattle.net_text.specs.InputLines.{is_space}
use Rattle.net_text.proofs.Steps.{lexeme_ends}
use Rattle.net_text.specs.declared.fault.TextFault.TheVariants.{NumberRange}

pub run_le : (p : ℕ → Bool) (bs : List ℕ) → run p bs ≤ length bs
run_le p [] = omega arith
run_le p (b ∷ bs) = let h = run_le p bs in pick (p b) (run p bs) (length bs) h
  where
    pick : (c : Bool) (n m : ℕ) → n ≤ m → cond c (suc n) 0 ≤ suc m
    pick true n m h = omega arith
    pick false n m h = omega arith

pub run_is : (p : ℕ → Bool) (n : ℕ) (bs : List ℕ) → n ≤ length bs → list_all p (take n bs) ≡ true
    → (n < length bs → p (get_or bs n 0) ≡ false) → n ≡ run p bs
run_is p zero [] le all stops = refl
run_is p (suc n) [] le all stops = absurd (omega arith)
run_is p zero (b ∷ bs) le all stops = let no = stops (omega arith) in rw no refl
run_is p (suc n) (b ∷ bs) le all stops =
    let parts = and_parts (p b) (list_all p (take n bs)) all in
    rw (parts.0) (ap suc (run_is p n bs (omega arith) parts.1 (λ lt. stops (omega arith))))

pub run_all : (p : ℕ → Bool) (bs : List ℕ) → list_all p (take (run p bs) bs) ≡ true
run_all p [] = refl
run_all p (b ∷ bs) = at_head (p b) refl (run_all p bs)
  where
    at_head : (c : Bool) → p b ≡ c → list_all p (take (run p bs) bs) ≡ true
        → list_all p (take (cond c (suc (run p bs)) 0) (b ∷ bs)) ≡ true
    at_head true e rest = and_from (p b) (list_all p (take (run p bs) bs)) e rest
    at_head false e rest = refl

pub run_stops : (p : ℕ → Bool) (bs : List ℕ) → run p bs < length bs → p (get_or bs (run p bs) 0) ≡ false
run_stops p [] lt = absurd (omega arith)
run_stops p (b ∷ bs) lt = at_head (p b) refl (run_stops p bs) lt
  where
    at_head : (c : Bool) → p b ≡ c → (run p bs < length bs → p (get_or bs (run p bs) 0) ≡ false)
        → cond c (suc (run p bs)) 0 < suc (length bs) → p (get_or (b ∷ bs) (cond c (suc (run p bs)) 0) 0) ≡ false
    at_head true e rest lt = rest (omega arith)
    at_head false e rest lt = e

-- a run of all bytes
pub run_whole : (p : ℕ → Bool) (bs : List ℕ) → list_all p bs ≡ true → run p bs ≡ length bs
run_whole p [] h = refl
run_whole p (b ∷ bs) h = let parts = and_parts (p b) (list_all p bs) h in rw parts.0 (ap suc (run_whole p bs parts.1))

pub whole_run : (p : ℕ → Bool) (bs : List ℕ) → run p bs ≡ length bs → list_all p bs ≡ true
whole_run p bs e =
    sym (ap (list_all p) (ap (λ (n : ℕ). take n bs) e ∙ take_all (length bs) bs (omega arith))) ∙ run_all p bs

own : IsNumeralModel (λ ds. list_all is_ascii_digit ds ≡ true) (digits_value 10)
own = numerals_by_value _ (search rules)

-- the text may be cut after them
pub item_ends : (text : List ℕ) (sign n : ℕ) → IsUtf8 text → sign ≤ length text → n ≤ length (drop sign text) → 0 < n
    → list_all is_ascii_digit (take n (drop sign text)) ≡ true → IsCharBoundary text (sign + n)
item_ends text sign n utf8 le within some all =
    let len = length-take n (drop sign text) in
    lexeme_ends text sign n utf8 le within (inr (inl (numeral_from_run (take n (drop sign text)) (omega arith) all)))

number_ok : {E : Type 0}
    → (line : ℕ) (minus : Bool) (v : ℕ) (limit : Type 0) (z : ℤ) (sign n : ℕ) (text : List ℕ) (r : Result ℤ E) → 0 < n
    → v ≡ numeral_value (take n (drop sign text)) → (limit → signed minus v line ≡ Ok z)
    → ((limit → ⊥) → signed minus v line ≡ Err (NumberRange line))
    → OkIff r limit z
    → MatchResult r (λ x. item_in line minus sign n text ≡ Ok (x, drop (sign + n) text))
    (λ _. item_in line minus sign n text ≡ Err (NumberRange line))
number_ok line minus v limit z sign n text (Ok x) some is ok err h =
    let digits : (n == 0) ≡ false = ne_eqb n 0 (λ e. omega arith) in
    rw (digits, sym is, ok h.0, h.1) refl
number_ok line minus v limit z sign n text (Err e) some is ok err h =
    let digits : (n == 0) ≡ false = ne_eqb n 0 (λ e. omega arith) in
    rw (digits, sym is, err h) refl

signed_below : (v line : ℕ) → v < 2 ^ 63 → signed false v line ≡ Ok (pos v)
signed_below v line lt = rw (lt-ltb v (2 ^ 63) lt) refl

signed_above : (v line : ℕ) → 2 ^ 63 ≤ v → signed false v line ≡ Err (NumberRange line)
signed_above v line le = rw (le-ltb v (2 ^ 63) le) refl

minus_below : (v line : ℕ) → v ≤ 2 ^ 63 → signed true v line ≡ Ok (neg_ℤ (pos v))
minus_below v line le = rw (le-leb v (2 ^ 63) le) refl

minus_above : (v line : ℕ) → 2 ^ 63 < v → signed true v line ≡ Err (NumberRange line)
minus_above v line lt = rw (lt-leb v (2 ^ 63) lt) refl

-- what std reads of a sign and digits
pub plain_parsed : {E : Type 0} → (text : List ℕ) (line n : ℕ) (r : Result ℤ E) → 0 < n → n ≤ length text
    → list_all is_ascii_digit (take n text) ≡ true → ParsesSigned w64 10 (take n text) r
    → MatchResult r (λ v. item_in line false 0 n text ≡ Ok (v, drop (0 + n) text))
    (λ _. item_in line false 0 n text ≡ Err (NumberRange line))
plain_parsed text line n r some le all parsed =
    let v = numeral_value (take n text) in
    let len = length-take n text in
    number_ok line false v ((0 < length (take n text)) × (v < 2 ^ 63)) (pos v) 0 n text r some refl
    (λ h. signed_below v line h.1)
    (λ no. signed_above v line
    (elim (cases_lt v (2 ^ 63)) as (λ _. 2 ^ 63 ≤ v) [
      | inl lt ↦ absurd (no (omega arith, lt))
      | inr large ↦ large
    ]))
    (parse_signed_digits own w64 (take n text) r parsed all)

pub minus_parsed : {E : Type 0} → (text : List ℕ) (line n : ℕ) (r : Result ℤ E) → 0 < n → get_or text 0 0 ≡ 45
    → n ≤ length (drop 1 text) → list_all is_ascii_digit (take n (drop 1 text)) ≡ true
    → ParsesSigned w64 10 (take (1 + n) text) r
    → MatchResult r (λ v. item_in line true 1 n text ≡ Ok (v, drop (1 + n) text))
    (λ _. item_in line true 1 n text ≡ Err (NumberRange line))
minus_parsed text line n r some minus le all parsed =
    let digits = take n (drop 1 text) in
    let v = numeral_value digits in
    let len = length-take n (drop 1 text) in
    let first : get_or (take (1 + n) text) 0 0 ≡ 45 = get_or-take (1 + n) text 0 0 (omega arith) ∙ minus in
    let same : drop 1 (take (1 + n) text) ≡ digits = drop-take 1 n text in
    let known = parse_signed_minus own w64 (take (1 + n) text) r parsed first in
    number_ok line true v ((list_all is_ascii_digit digits ≡ true) × (0 < length digits) × (v ≤ 2 ^ 63))
    (neg_ℤ (pos v)) 1 n text r some refl
    (λ h. minus_below v line h.2)
    (λ no. minus_above v line
    (elim (cases_lt (2 ^ 63) v) as (λ _. 2 ^ 63 < v)
    [ inl lt ↦ lt | inr small ↦ absurd (no (all, omega arith, small)) ]))
    (subst (λ (ds : List ℕ). OkIff r
    ((list_all is_ascii_digit ds ≡ true) × (0 < length ds) × (numeral_value ds ≤ 2 ^ 63))
    (neg_ℤ (pos (numeral_value ds)))) same known)

pub item_parsed : {E : Type 0} → (text : List ℕ) (line n : ℕ) (r : Result ℤ E)
    → n ≡ run is_ascii_digit (drop (sign_len text) text) → 0 < n → ParsesSigned w64 10 (take (sign_len text + n) text) r
    → MatchResult r (λ v. item_at line text ≡ Ok (v, drop (sign_len text + n) text))
    (λ _. item_at line text ≡ Err (NumberRange line))
unfolding item_at
item_parsed text line n r is some parsed =
    let all =
    subst (λ (k : ℕ). list_all is_ascii_digit (take k (drop (sign_len text) text)) ≡ true) (sym is)
    (run_all is_ascii_digit (drop (sign_len text) text)) in
    let le =
    subst (λ (k : ℕ). k ≤ length (drop (sign_len text) text)) (sym is)
    (run_le is_ascii_digit (drop (sign_len text) text)) in
    rw (← is) (by_sign (slice_index text 0 == 45) refl all le parsed)
  where
    by_sign : (b : Bool) → (slice_index text 0 == 45) ≡ b
        → list_all is_ascii_digit (take n (drop (cond b 1 0) text)) ≡ true → n ≤ length (drop (cond b 1 0) text)
        → ParsesSigned w64 10 (take (cond b 1 0 + n) text) r
        → MatchResult r (λ v. item_in line b (cond b 1 0) n text ≡ Ok (v, drop (cond b 1 0 + n) text))
        (λ _. item_in line b (cond b 1 0) n text ≡ Err (NumberRange line))
    by_sign true minus all le parsed = minus_parsed text line n r some (eqb-true _ _ minus) le all parsed
    by_sign false minus all le parsed =
        plain_parsed text line n r some le all
        (let e : 0 + n ≡ n = omega arith in subst (λ (k : ℕ). ParsesSigned w64 10 (take k text) r) e parsed)

-- the same, in the pieces that the code cuts
pub item_done : {E : Type 0} → (text bytes unsigned number rest : List ℕ) (line sign digits : ℕ) (r : Result ℤ E)
    → bytes ≡ text → sign ≡ sign_len bytes → unsigned ≡ drop sign bytes
    → digits ≤ length unsigned → list_all is_ascii_digit (take digits unsigned) ≡ true
    → (digits < length unsigned → is_ascii_digit (get_or unsigned digits 0) ≡ false) → 0 < digits
    → number ≡ take (sign + digits) text → rest ≡ drop (sign + digits) text → ParsesSigned w64 10 number r
    → MatchResult r (λ v. item_at line text ≡ Ok (v, rest)) (λ _. item_at line text ≡ Err (NumberRange line))
item_done text bytes unsigned number rest line sign digits r bytes_is sign_is unsigned_is within all stops some
    number_is rest_is parsed =
    let s : sign ≡ sign_len text = sign_is ∙ ap sign_len bytes_is in
    let u : unsigned ≡ drop (sign_len text) text =
    unsigned_is ∙ ap (λ (k : ℕ). drop k bytes) s ∙ ap (drop (sign_len text)) bytes_is in
    let d : digits ≡ run is_ascii_digit (drop (sign_len text) text) =
    run_is is_ascii_digit digits unsigned within all stops ∙ ap (run is_ascii_digit) u in
    let p : ParsesSigned w64 10 (take (sign_len text + digits) text) r =
    subst (λ (ns : List ℕ). ParsesSigned w64 10 ns r) (number_is ∙ ap (λ (k : ℕ). take (k + digits) text) s)
    parsed in
    let e : drop (sign_len text + digits) text ≡ rest = ap (λ (k : ℕ). drop (k + digits) text) (sym s) ∙ sym rest_is in
    subst (λ (t : List ℕ). MatchResult r (λ v. item_at line text ≡ Ok (v, t))
    (λ _. item_at line text ≡ Err (NumberRange line))) e (item_parsed text line digits r d some p)

pub item_cut : (text bytes unsigned : List ℕ) (sign digits : ℕ) → IsUtf8 text → bytes ≡ text → sign ≤ length bytes
    → unsigned ≡ drop sign bytes → digits ≤ length unsigned → 0 < digits
    → list_all is_ascii_digit (take digits unsigned) ≡ true → IsCharBoundary text (sign + digits)
item_cut text bytes unsigned sign digits utf8 bytes_is le unsigned_is within some all =
    let u : unsigned ≡ drop sign text = unsigned_is ∙ ap (drop sign) bytes_is in
    let l = ap length u in
    let b = ap length bytes_is in
    item_ends text sign digits utf8 (omega arith) (omega arith) some
    (subst (λ (t : List ℕ). list_all is_ascii_digit (take digits t) ≡ true) u all)

pub sign_le : (bytes : List ℕ) (sign : ℕ) → sign ≡ sign_len bytes → sign ≤ length bytes
sign_le [] sign e = omega arith
sign_le (b ∷ bytes) sign e = pick (b == 45) e
  where
    pick : (c : Bool) → sign ≡ cond c 1 0 → sign ≤ suc (length bytes)
    pick true e = omega arith
    pick false e = omega arith

-- a text may be cut after spaces
pub spaces_cut : (text : List ℕ) (gap : ℕ) → IsUtf8 text → gap ≡ run is_space text → (gap ≡ 0 → ⊥)
    → IsCharBoundary text gap
spaces_cut text gap utf8 is some =
    let le = run_le is_space text in
    let all = subst (λ (n : ℕ). list_all is_space (take n text) ≡ true) (sym is) (run_all is_space text) in
    let len = length-take gap text in
    let positive : 0 < gap = omega arith in
    let space = eqb-true _ _ (passes_at is_space (take gap text) (gap - 1) all (omega arith)) in
    let byte : get_or text (gap - 1) 0 ≡ 32 = sym (get_or-take gap text (gap - 1) 0 (omega arith)) ∙ space in
    let same : gap - 1 + 1 ≡ gap = omega arith in
    subst (IsCharBoundary text) same (IsCharBoundary-after_ascii text (gap - 1) utf8 (omega arith) (omega arith))

pub colon_cut : (text : List ℕ) (len : ℕ) → IsUtf8 text → len < length text → get_or text len 0 ≡ 58
    → IsCharBoundary text (len + 1)
colon_cut text len utf8 lt colon = IsCharBoundary-after_ascii text len utf8 lt (omega arith)
