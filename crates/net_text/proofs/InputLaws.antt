-- What is read of an inputs text is in its grammar, and what is in the grammar is read.
use Rattle.std.proofs.Common.{◌≡◌, ℕ, zero, suc, ◌+◌, ◌^◌, ◌<◌, ◌≤◌, ◌⊎◌, inl, inr, Bool, true, false, cond, ◌||◌, ltb}
use Rattle.std.proofs.Common.{leb, List, [], ◌∷◌, ◌++◌, length, take, drop, get_or, Option, Some, None, Result, Ok, Err}
use Rattle.std.proofs.Common.{ℤ, pos, neg_ℤ, refl, sym, ap, subst, ◌∙◌, arith, length-append, length-take, length-drop}
use Rattle.std.proofs.Common.{take-append-drop, drop-cons, map}
use Rattle.std.specs.Prelude.{◌==◌, slice_index}
use Rattle.std.specs.List.{list_all, slice_split}
use Rattle.std.specs.Str.Lines.{strip_carriage_return}
use Rattle.std.specs.Char.{is_ascii_digit}
use Rattle.std.proofs.lemmas.Bool.{and_parts, eqb-true, eqb-false, eq-eqb, ne_eqb, cases_lt, le-ltb, lt-ltb, le-leb}
use Rattle.std.proofs.lemmas.Bool.{ltb-true, ltb-false, leb-true, both_ways, or_left, or_right, or_from, or_cases}
use Rattle.std.proofs.lemmas.List.{take_at, drop_at, get_or-take}
use Rattle.net_text.specs.Numbers.{numeral_value}
use Rattle.net_text.specs.Spellings.{starts_word, continues_word, is_word}
use Rattle.net_text.specs.Trees.{InputTree}
use Rattle.net_text.specs.InputLines.{is_space, is_comment, IsBlank, IsItem, IsItems, IsEntry, AreEntries, lines_of}
use Rattle.net_text.specs.InputLines.{IsInputsText}
use Rattle.net_text.specs.InputReading.{Fails, run, signed, item_in, item_at, items_from, items_at, after_name}
use Rattle.net_text.specs.InputReading.{entry_at, with_entry, line_at, lines_at}
use Rattle.net_text.proofs.Runs.{run_le, run_all, run_stops, run_whole, whole_run}
use Rattle.net_text.proofs.Lexemes.{numeral_digits, numeral_from_run, numeral_some, word_continues, word_from_run}
use Rattle.net_text.proofs.Lexemes.{first_of_word, digit_bounds, starts_bounds, starts_continues}
use Rattle.net_text.proofs.Items.{item_shortens}
use Rattle.net_text.specs.declared.fault.TextFault.{TextFault}
use Rattle.net_text.specs.declared.fault.TextFault.TheVariants.{NoMemory, BadToken, Unexpected, NumberRange, TooLong}
use Rattle.net_text.specs.declared.limits.TheConstants.{MAX_INPUTS_BYTES, MAX_NAME_BYTES}
use Rattle.net_text.proofs.Sequences.{same_value, went_on}
use Rattle.net_text.specs.Results.{◌>>=◌}

-- which way a choice went
pub chosen : {A : Type 0} (b : Bool) (x y z : A) → cond b x y ≡ z → ((b ≡ true) × (x ≡ z)) ⊎ ((b ≡ false) × (y ≡ z))
chosen true x y z e = inl (refl, e)
chosen false x y z e = inr (refl, e)

-- ---- what is read is in the grammar

-- a number with its sign
signed_ok : (minus : Bool) (n line : ℕ) (v : ℤ) → signed minus n line ≡ Ok v
    → (minus ≡ true → (n ≤ 2 ^ 63) × (v ≡ neg_ℤ (pos n))) × (minus ≡ false → (n < 2 ^ 63) × (v ≡ pos n))
signed_ok true n line v e = (
  λ _. elim (chosen (leb n (2 ^ 63)) (Ok (neg_ℤ (pos n))) (Err (NumberRange line)) (Ok v) e) as (λ _. (n ≤ 2 ^ 63)
      × (v ≡ neg_ℤ (pos n)))
      [ inl h ↦ (leb-true _ _ h.0, sym (same_value (neg_ℤ (pos n)) v h.1)) | inr h ↦ absurd (no_ok _ v h.1) ],
  λ h. absurd cc,
)
  where
    no_ok : (f : TextFault) (x : ℤ) → (let left : Result ℤ TextFault = Err f in left ≡ Ok x) → ⊥
    no_ok f x h = cc
signed_ok false n line v e = (
  λ h. absurd cc,
  λ _. elim (chosen (ltb n (2 ^ 63)) (Ok (pos n)) (Err (NumberRange line)) (Ok v) e) as (λ _. (n < 2 ^ 63)
      × (v ≡ pos n)) [ inl h ↦ (ltb-true _ _ h.0, sym (same_value (pos n) v h.1)) | inr h ↦ absurd (no_ok _ v h.1) ],
)
  where
    no_ok : (f : TextFault) (x : ℤ) → (let left : Result ℤ TextFault = Err f in left ≡ Ok x) → ⊥
    no_ok f x h = cc

-- an item at the front
pub record Item (bytes : List ℕ) (v : ℤ) (rest : List ℕ) : Type 0 where
  pub item : List ℕ
  pub parts : bytes ≡ item ++ rest
  pub is : IsItem item v

item_in_took : (line : ℕ) (minus : Bool) (bytes : List ℕ) (x : ℤ × List ℕ) → (slice_index bytes 0 == 45) ≡ minus
    → item_in line minus (cond minus 1 0) (run is_ascii_digit (drop (cond minus 1 0) bytes)) bytes ≡ Ok x
    → Item bytes x.0 x.1
item_in_took line true [] x b e = absurd (zero_is_no_minus b)
  where
    zero_is_no_minus : (slice_index [] 0 == 45) ≡ true → ⊥
    zero_is_no_minus h = cc
item_in_took line true (b ∷ bytes) x h e =
    let n = run is_ascii_digit bytes in
    elim (chosen (n == 0) (Err (BadToken line))
    (signed true (numeral_value (take n bytes)) line >>= λ v. Ok (v, drop (1 + n) (b ∷ bytes))) (Ok x)
    e) as (λ _. Item (b ∷ bytes) x.0 x.1) [
      | inl none ↦ absurd (no_ok _ x none.1)
      | inr some ↦
          let a = went_on (signed true (numeral_value (take n bytes)) line) (λ v. Ok (v, drop (1 + n) (b ∷ bytes))) x
          some.1 in
          let made : ℤ × List ℕ = (a.0, drop (1 + n) (b ∷ bytes)) in
          let s = (signed_ok true (numeral_value (take n bytes)) line a.0 a.1).0 refl in
          let le = run_le is_ascii_digit bytes in
          let len = length-take n bytes in
          let positive : 0 < n = let k = eqb-false n 0 some.0 in omega arith in
          let front : b ∷ bytes ≡ 45 ∷ (take n bytes ++ drop n bytes) =
          λ i. (eqb-true _ _ h) i ∷ (sym (take-append-drop n bytes)) i in
          let rest : drop (1 + n) (b ∷ bytes) ≡ drop n bytes = let k : 1 + n ≡ suc n = omega arith in
          ap (λ (m : ℕ). drop m (b ∷ bytes)) k in
          subst (λ (p : ℤ × List ℕ). Item (b ∷ bytes) p.0 p.1) (same_value made x a.2)
          (record {
            item = 45 ∷ take n bytes;
            parts = front ∙ ap (λ (r : List ℕ). 45 ∷ (take n bytes ++ r)) (sym rest);
            is = inr (
              take n bytes,
              refl,
              numeral_from_run (take n bytes) (omega arith) (run_all is_ascii_digit bytes),
              s.0,
              s.1,
            );
          })
    ]
  where
    no_ok : (f : TextFault) (x : ℤ × List ℕ) → (let left : Result (ℤ × List ℕ) TextFault = Err f in left ≡ Ok x) → ⊥
    no_ok f x h = cc
item_in_took line false bytes x h e =
    let n = run is_ascii_digit bytes in
    elim (chosen (n == 0) (Err (BadToken line))
    (signed false (numeral_value (take n bytes)) line >>= λ v. Ok (v, drop (0 + n) bytes)) (Ok x) e) as (λ _. Item
    bytes x.0 x.1) [
      | inl none ↦ absurd (no_ok _ x none.1)
      | inr some ↦
          let a = went_on (signed false (numeral_value (take n bytes)) line) (λ v. Ok (v, drop (0 + n) bytes)) x
          some.1 in
          let made : ℤ × List ℕ = (a.0, drop (0 + n) bytes) in
          let s = (signed_ok false (numeral_value (take n bytes)) line a.0 a.1).1 refl in
          let le = run_le is_ascii_digit bytes in
          let len = length-take n bytes in
          let positive : 0 < n = let k = eqb-false n 0 some.0 in omega arith in
          let rest : drop (0 + n) bytes ≡ drop n bytes = let k : 0 + n ≡ n = omega arith in
          ap (λ (m : ℕ). drop m bytes) k in
          subst (λ (p : ℤ × List ℕ). Item bytes p.0 p.1) (same_value made x a.2)
          (record {
            item = take n bytes;
            parts = sym (take-append-drop n bytes) ∙ ap (λ (r : List ℕ). take n bytes ++ r) (sym rest);
            is = inl (numeral_from_run (take n bytes) (omega arith) (run_all is_ascii_digit bytes), s.0, s.1);
          })
    ]
  where
    no_ok : (f : TextFault) (x : ℤ × List ℕ) → (let left : Result (ℤ × List ℕ) TextFault = Err f in left ≡ Ok x) → ⊥
    no_ok f x h = cc

pub item_took : (line : ℕ) (bytes : List ℕ) (x : ℤ × List ℕ) → item_at line bytes ≡ Ok x → Item bytes x.0 x.1
unfolding item_at
item_took line bytes x e = item_in_took line (slice_index bytes 0 == 45) bytes x refl e

items_from_took : (line n : ℕ) (bytes : List ℕ) (vs : List ℤ) → length bytes < n → items_from line n bytes ≡ Ok vs
    → IsItems vs bytes
items_from_took line zero bytes vs lt e = absurd (omega arith)
items_from_took line (suc n) bytes vs lt e =
    let gap = run is_space bytes in
    elim (chosen (gap == length bytes) (Ok [])
    (cond (gap == 0) (Err (BadToken line))
    (item_at line (drop gap bytes) >>= λ first. items_from line n first.1 >>= λ others. Ok (first.0 ∷ others)))
    (Ok vs) e) as (λ _. IsItems vs bytes) [
      | inl all ↦ subst (λ (xs : List ℤ). IsItems xs bytes) (same_value [] vs all.1)
          (whole_run is_space bytes (eqb-true _ _ all.0))
      | inr some ↦
          elim (chosen (gap == 0) (Err (BadToken line))
          (item_at line (drop gap bytes) >>= λ first. items_from line n first.1 >>= λ others. Ok
          (first.0 ∷ others)) (Ok vs) some.1) as (λ _. IsItems vs bytes) [
            | inl none ↦ absurd (no_ok _ vs none.1)
            | inr gone ↦
                let a = went_on (item_at line (drop gap bytes))
                (λ first. items_from line n first.1 >>= λ others. Ok (first.0 ∷ others)) vs gone.1 in
                let b = went_on (items_from line n a.0.1) (λ others. Ok (a.0.0 ∷ others)) vs a.2 in
                let less = item_shortens line (drop gap bytes) a.0 a.1 in
                let l = length-drop gap bytes in
                let le = run_le is_space bytes in
                let len = length-take gap bytes in
                let positive : 0 < gap = let k = eqb-false gap 0 gone.0 in omega arith in
                let others = items_from_took line n a.0.1 b.0 (omega arith) b.1 in
                let item = item_took line (drop gap bytes) a.0 a.1 in
                subst (λ (xs : List ℤ). IsItems xs bytes) (same_value (a.0.0 ∷ b.0) vs b.2) (
                  take gap bytes,
                  item.item,
                  a.0.1,
                  sym (take-append-drop gap bytes)
                      ∙ ap (λ (r : List ℕ). take gap bytes ++ r) item.parts,
                  omega arith,
                  run_all is_space bytes,
                  item.is,
                  others,
                )
          ]
    ]
  where
    no_ok : (f : TextFault) (x : List ℤ) → (let left : Result (List ℤ) TextFault = Err f in left ≡ Ok x) → ⊥
    no_ok f x h = cc

pub items_took : (line : ℕ) (bytes : List ℕ) (vs : List ℤ) → items_at line bytes ≡ Ok vs → IsItems vs bytes
unfolding items_at
items_took line bytes vs e = items_from_took line (suc (length bytes)) bytes vs (omega arith) e

-- the entry of a line
after_name_took : (line : ℕ) (bytes : List ℕ) (e : InputTree) → starts_word (get_or bytes 0 0) ≡ true
    → after_name line (run continues_word bytes) bytes ≡ Ok e → IsEntry line bytes e
unfolding after_name
after_name_took line bytes e start h =
    let n = run continues_word bytes in
    let made = λ (items : List ℤ). let t : InputTree =
    record { name = record { text = take n bytes; line = line }; items = items } in t in
    elim (chosen (ltb MAX_NAME_BYTES n) (Err (TooLong line))
    (cond (n == length bytes) (Err (Unexpected line))
    (cond (slice_index bytes n == 58) (items_at line (drop (suc n) bytes) >>= λ items. Ok (made items))
    (Err (BadToken line)))) (Ok e) h) as (λ _. IsEntry line bytes e) [
      | inl long ↦ absurd (no_ok _ e long.1)
      | inr short ↦
          elim (chosen (n == length bytes) (Err (Unexpected line))
          (cond (slice_index bytes n == 58) (items_at line (drop (suc n) bytes) >>= λ items. Ok (made items))
          (Err (BadToken line))) (Ok e) short.1) as (λ _. IsEntry line bytes e) [
            | inl all ↦ absurd (no_ok _ e all.1)
            | inr some ↦
                elim (chosen (slice_index bytes n == 58)
                (items_at line (drop (suc n) bytes) >>= λ items. Ok (made items)) (Err (BadToken line)) (Ok e)
                some.1) as (λ _. IsEntry line bytes e) [
                  | inl colon ↦
                      let a = went_on (items_at line (drop (suc n) bytes)) (λ items. Ok (made items)) e colon.1 in
                      let le = run_le continues_word bytes in
                      let ne = eqb-false n (length bytes) some.0 in
                      let lt : n < length bytes = omega arith in
                      let len = length-take n bytes in
                      let positive = run_positive bytes start lt in
                      let parts : bytes ≡ take n bytes ++ 58 ∷ drop (suc n) bytes =
                      sym (take-append-drop n bytes)
                      ∙ ap (λ (r : List ℕ). take n bytes ++ r)
                      (drop-cons bytes n 0 lt ∙ ap (λ (b : ℕ). b ∷ drop (suc n) bytes) (eqb-true _ _ colon.0)) in
                      let word =
                      word_from_run (take n bytes) (omega arith)
                      (ap starts_word (get_or-take n bytes 0 0 positive) ∙ start) (run_all continues_word bytes) in
                      subst (IsEntry line bytes) (same_value (made a.0) e a.2)
                      (record {
                        rest = drop (suc n) bytes;
                        parts = parts;
                        word = word;
                        short = let s =
                            ltb-false MAX_NAME_BYTES n short.0 in omega arith;
                        line_is = refl;
                        items =
                            items_took line (drop (suc n) bytes) a.0 a.1;
                      })
                  | inr other ↦ absurd (no_ok _ e other.1)
                ]
          ]
    ]
  where
    no_ok : (f : TextFault) (x : InputTree) → (let left : Result InputTree TextFault = Err f in left ≡ Ok x) → ⊥
    no_ok f x h = cc

    run_positive : (bytes : List ℕ) → starts_word (get_or bytes 0 0) ≡ true → run continues_word bytes < length bytes
        → 0 < run continues_word bytes
    run_positive bytes start lt =
        elim (cases_lt 0 (run continues_word bytes)) as (λ _. 0 < run continues_word bytes) [
          | inl yes' ↦ yes'
          | inr none ↦
              let z : run continues_word bytes ≡ 0 = omega arith in
              absurd (both_ways (continues_word (get_or bytes 0 0))
              (ap (λ (k : ℕ). continues_word (get_or bytes k 0)) (sym z) ∙ run_stops continues_word bytes lt)
              (starts_continues (get_or bytes 0 0) start))
        ]

entry_took : (line : ℕ) (bytes : List ℕ) (e : InputTree) → entry_at line bytes ≡ Ok e → IsEntry line bytes e
unfolding entry_at
entry_took line bytes e h =
    elim (chosen (starts_word (slice_index bytes 0)) (after_name line (run continues_word bytes) bytes)
    (Err (BadToken line)) (Ok e) h) as (λ _. IsEntry line bytes e) [
      | inl start ↦ after_name_took line bytes e start.0 start.1
      | inr other ↦ absurd (no_ok _ e other.1)
    ]
  where
    no_ok : (f : TextFault) (x : InputTree) → (let left : Result InputTree TextFault = Err f in left ≡ Ok x) → ⊥
    no_ok f x h = cc

-- what a line may say
unfoldable pub IsLine : ℕ → List ℕ → Option InputTree → Type 0
IsLine number line None = IsBlank line
IsLine number line (Some e) = IsEntry number line e

pub line_took : (number : ℕ) (line : List ℕ) (e : Option InputTree) → line_at number line ≡ Ok e → IsLine number line e
unfolding line_at IsLine
line_took number line e h =
    elim (chosen ((run is_space line == length line) || is_comment line) (Ok None)
    (entry_at number line >>= λ x. Ok (Some x)) (Ok e) h) as (λ _. IsLine number line e) [
      | inl blank ↦ subst (IsLine number line) (same_value None e blank.1)
          (elim (or_cases (run is_space line == length line) (is_comment line) blank.0) as (λ _. IsBlank line)
          [ inl spaces ↦ inl (whole_run is_space line (eqb-true _ _ spaces)) | inr comment ↦ inr comment ])
      | inr other ↦
          let a = went_on (entry_at number line) (λ x. Ok (Some x)) e other.1 in
          subst (IsLine number line) (same_value (Some a.0) e a.2) (entry_took number line a.0 a.1)
    ]

pub lines_took : (number : ℕ) (lines : List (List ℕ)) (es : List InputTree) → lines_at number lines ≡ Ok es
    → AreEntries number lines es
unfolding lines_at IsLine
lines_took number [] es h = sym (same_value [] es h)
lines_took number (line ∷ lines) es h =
    let a = went_on (line_at number line) (λ e. lines_at (suc number) lines >>= λ others. Ok (with_entry e others)) es
    h in
    let b = went_on (lines_at (suc number) lines) (λ others. Ok (with_entry a.0 others)) es a.2 in
    with_line number line lines es a.0 b.0 (line_took number line a.0 a.1) (lines_took (suc number) lines b.0 b.1)
    (same_value (with_entry a.0 b.0) es b.2)
  where
    with_line : (number : ℕ) (line : List ℕ) (lines : List (List ℕ)) (es : List InputTree) (e : Option InputTree)
        (others : List InputTree) → IsLine number line e → AreEntries (suc number) lines others
        → with_entry e others ≡ es → AreEntries number (line ∷ lines) es
    with_line number line lines es None others is are same = inl (is, subst (AreEntries (suc number) lines) same are)
    with_line number line lines es (Some e) others is are same = inr (e, others, sym same, is, are)

-- ---- what is in the grammar is read

pub run_append : (p : ℕ → Bool) (xs ys : List ℕ) → list_all p xs ≡ true → p (get_or ys 0 0) ≡ false
    → run p (xs ++ ys) ≡ length xs
run_append p [] [] all stop = refl
run_append p [] (y ∷ ys) all stop = rw stop refl
run_append p (x ∷ xs) ys all stop = let parts = and_parts (p x) (list_all p xs) all in
    rw parts.0 (ap suc (run_append p xs ys parts.1 stop))

-- an item from its pieces
in_pieces : (line : ℕ) (minus : Bool) (sign n len : ℕ) (bytes digits rest : List ℕ) (v : ℤ) → n ≡ len
    → (len == 0) ≡ false → take len (drop sign bytes) ≡ digits → drop (sign + len) bytes ≡ rest
    → signed minus (numeral_value digits) line ≡ Ok v
    → item_in line minus sign n bytes ≡ Ok (v, rest)
in_pieces line minus sign n len bytes digits rest v is some front back read = rw (is, some, front, read, back) refl

signed_small : (n line : ℕ) → n < 2 ^ 63 → signed false n line ≡ Ok (pos n)
signed_small n line lt = rw (lt-ltb n (2 ^ 63) lt) refl

signed_minus : (n line : ℕ) → n ≤ 2 ^ 63 → signed true n line ≡ Ok (neg_ℤ (pos n))
signed_minus n line le = rw (le-leb n (2 ^ 63) le) refl

pub item_again : (line : ℕ) (item : List ℕ) (v : ℤ) (rest : List ℕ) → IsItem item v
    → is_ascii_digit (get_or rest 0 0) ≡ false → item_at line (item ++ rest) ≡ Ok (v, rest)
unfolding item_at
item_again line [] v rest (inl plain) stop = absurd cc
item_again line (b ∷ bs) v rest (inl plain) stop =
    let all = plain.0 in
    let first = digit_bounds b (and_parts (is_ascii_digit b) (list_all is_ascii_digit bs) all).0 in
    let unsigned : (b == 45) ≡ false = ne_eqb b 45 (λ e. omega arith) in
    let len = run_append is_ascii_digit (b ∷ bs) rest all stop in
    let front = take_at (b ∷ bs) rest (length (b ∷ bs)) refl in
    let back : drop (0 + length (b ∷ bs)) ((b ∷ bs) ++ rest) ≡ rest = let z : 0 + length (b ∷ bs) ≡ length (b ∷ bs) =
    omega arith in ap (λ (k : ℕ). drop k ((b ∷ bs) ++ rest)) z ∙ drop_at (b ∷ bs) rest (length (b ∷ bs)) refl in
    let some : (length (b ∷ bs) == 0) ≡ false = ne_eqb (length (b ∷ bs)) 0 (λ e. omega arith) in
    rw unsigned
    (in_pieces line false 0 (run is_ascii_digit ((b ∷ bs) ++ rest)) (length (b ∷ bs)) ((b ∷ bs) ++ rest) (b ∷ bs)
    rest v len some front back
    (ap (λ (n : ℕ). signed false n line) refl ∙ signed_small (numeral_value (b ∷ bs)) line plain.1
    ∙ ap (λ (z : ℤ). let r : Result ℤ TextFault = Ok z in r) (sym plain.2)))
item_again line item v rest (inr minus) stop =
    let digits = minus.0 in
    let all = numeral_digits digits minus.2 in
    let len = run_append is_ascii_digit digits rest all stop in
    let positive = numeral_some digits minus.2 in
    let front = take_at digits rest (length digits) refl in
    let back : drop (1 + length digits) (45 ∷ (digits ++ rest)) ≡ rest =
    let z : 1 + length digits ≡ suc (length digits) = omega arith in
    ap (λ (k : ℕ). drop k (45 ∷ (digits ++ rest))) z ∙ drop_at digits rest (length digits) refl in
    let some : (length digits == 0) ≡ false = ne_eqb (length digits) 0 (λ e. omega arith) in
    ap (λ (t : List ℕ). item_at line (t ++ rest)) minus.1
    ∙ in_pieces line true 1 (run is_ascii_digit (digits ++ rest)) (length digits) (45 ∷ (digits ++ rest)) digits rest v
    len some front back
    (signed_minus (numeral_value digits) line minus.3
    ∙ ap (λ (z : ℤ). let r : Result ℤ TextFault = Ok z in r) (sym minus.4))

-- items begin with a space, where there are any
pub items_begin : (vs : List ℤ) (bytes : List ℕ) → IsItems vs bytes → is_ascii_digit (get_or bytes 0 0) ≡ false
items_begin [] [] is = refl
items_begin [] (b ∷ bytes) is = let space = eqb-true _ _ (and_parts (is_space b) (list_all is_space bytes) is).0 in
    ap is_ascii_digit space
items_begin (v ∷ vs) bytes is = first_space is.0 bytes (is.1 ++ is.2) is.3 is.4 is.5
  where
    first_space : (gap bytes rest : List ℕ) → bytes ≡ gap ++ rest → 0 < length gap → list_all is_space gap ≡ true
        → is_ascii_digit (get_or bytes 0 0) ≡ false
    first_space [] bytes rest e some all = absurd (omega arith)
    first_space (b ∷ gap) bytes rest e some all =
        let space = eqb-true _ _ (and_parts (is_space b) (list_all is_space gap) all).0 in
        ap (λ (bs : List ℕ). is_ascii_digit (get_or bs 0 0)) e ∙ ap is_ascii_digit space

-- an item is no space, and takes a byte at least
pub item_begins : (item : List ℕ) (v : ℤ) (rest : List ℕ) → IsItem item v
    → (is_space (get_or (item ++ rest) 0 0) ≡ false) × (0 < length item)
item_begins [] v rest (inl plain) = absurd cc
item_begins (b ∷ bs) v rest (inl plain) =
    let first = digit_bounds b (and_parts (is_ascii_digit b) (list_all is_ascii_digit bs) plain.0).0 in
    (ne_eqb b 32 (λ e. omega arith), omega arith)
item_begins item v rest (inr minus) =
    let l = ap length minus.1 in
    (ap (λ (t : List ℕ). is_space (get_or (t ++ rest) 0 0)) minus.1, omega arith)

items_from_again : (line n : ℕ) (vs : List ℤ) (bytes : List ℕ) → IsItems vs bytes → length bytes < n
    → items_from line n bytes ≡ Ok vs
items_from_again line zero vs bytes is lt = absurd (omega arith)
items_from_again line (suc n) [] bytes is lt = let all : (run is_space bytes == length bytes) ≡ true =
    eq-eqb _ _ (run_whole is_space bytes is) in rw all refl
items_from_again line (suc n) (v ∷ vs) bytes is lt =
    let gap = is.0 in
    let item = is.1 in
    let rest = is.2 in
    let begins = item_begins item v rest is.6 in
    let len : run is_space bytes ≡ length gap =
    ap (run is_space) is.3 ∙ run_append is_space gap (item ++ rest) is.5 begins.0 in
    let whole : length bytes ≡ length gap + (length item + length rest) =
    ap length is.3 ∙ length-append gap (item ++ rest) ∙ ap (λ (k : ℕ). length gap + k) (length-append item rest) in
    let some = begins.1 in
    let gap_some = is.4 in
    let not_all : (run is_space bytes == length bytes) ≡ false = ne_eqb _ _ (λ e. omega arith) in
    let not_none : (run is_space bytes == 0) ≡ false = ne_eqb _ _ (λ e. omega arith) in
    let after : drop (run is_space bytes) bytes ≡ item ++ rest =
    ap (λ (k : ℕ). drop k bytes) len ∙ ap (drop (length gap)) is.3 ∙ drop_at gap (item ++ rest) (length gap) refl in
    let first = item_again line item v rest is.6 (items_begin vs rest is.7) in
    let others = items_from_again line n vs rest is.7 (omega arith) in
    rw (not_all, not_none, after, first, others) refl

pub items_again : (line : ℕ) (vs : List ℤ) (bytes : List ℕ) → IsItems vs bytes → items_at line bytes ≡ Ok vs
unfolding items_at
items_again line vs bytes is = items_from_again line (suc (length bytes)) vs bytes is (omega arith)

entry_again : (line : ℕ) (bytes : List ℕ) (e : InputTree) → IsEntry line bytes e → entry_at line bytes ≡ Ok e
unfolding entry_at after_name
entry_again line bytes e is =
    let name = e.name.text in
    let tail = 58 ∷ is.rest in
    let len : run continues_word bytes ≡ length name =
    ap (run continues_word) is.parts ∙ run_append continues_word name tail (word_continues name is.word) refl in
    let whole : length bytes ≡ length name + suc (length is.rest) = ap length is.parts ∙ length-append name tail in
    let short = is.short in
    let is_short : ltb MAX_NAME_BYTES (length name) ≡ false = le-ltb MAX_NAME_BYTES (length name) short in
    let goes_on : (length name == length bytes) ≡ false = ne_eqb _ _ (λ h. omega arith) in
    let first : get_or bytes 0 0 ≡ get_or name 0 0 =
    ap (λ (bs : List ℕ). get_or bs 0 0) is.parts ∙ first_of name tail is.word in
    let start : starts_word (get_or bytes 0 0) ≡ true = ap starts_word first ∙ first_of_word name is.word in
    let colon : (slice_index bytes (length name) == 58) ≡ true =
    ap (λ (bs : List ℕ). slice_index bs (length name) == 58) is.parts ∙ colon_at name is.rest in
    let after : drop (suc (length name)) bytes ≡ is.rest =
    ap (drop (suc (length name))) is.parts ∙ past_colon name is.rest in
    let front : take (length name) bytes ≡ name =
    ap (take (length name)) is.parts ∙ take_at name tail (length name) refl in
    let items = items_again line e.items is.rest is.items in
    rw (start, len, is_short, goes_on, colon, after, items, front, ← is.line_is) refl
  where
    first_of : (name tail : List ℕ) → is_word name ≡ true → get_or (name ++ tail) 0 0 ≡ get_or name 0 0
    first_of [] tail word = absurd cc
    first_of (b ∷ name) tail word = refl

    colon_at : (name rest : List ℕ) → (slice_index (name ++ 58 ∷ rest) (length name) == 58) ≡ true
    colon_at [] rest = refl
    colon_at (b ∷ name) rest = colon_at name rest

    past_colon : (name rest : List ℕ) → drop (suc (length name)) (name ++ 58 ∷ rest) ≡ rest
    past_colon [] rest = refl
    past_colon (b ∷ name) rest = past_colon name rest

-- an entry is no blank line
entry_not_blank : (number : ℕ) (line : List ℕ) (e : InputTree) → IsEntry number line e
    → ((run is_space line == length line) || is_comment line) ≡ false
entry_not_blank number line e is =
    let name = e.name.text in
    let tail = 58 ∷ is.rest in
    ap (λ (bs : List ℕ). (run is_space bs == length bs) || is_comment bs) is.parts ∙ begins name tail is.word
  where
    begins : (name tail : List ℕ) → is_word name ≡ true
        → ((run is_space (name ++ tail) == length (name ++ tail)) || is_comment (name ++ tail)) ≡ false
    begins [] tail word = absurd cc
    begins (b ∷ name) tail word =
        let start = starts_bounds b (and_parts (starts_word b) (list_all continues_word name) word).0 in
        let no_space : is_space b ≡ false = ne_eqb b 32 (λ h. omega arith) in
        let no_comment : (b == 35) ≡ false = ne_eqb b 35 (λ h. omega arith) in
        let none : run is_space (b ∷ (name ++ tail)) ≡ 0 = rw no_space refl in
        or_from _ _ (ne_eqb _ _ (λ h. omega (arith, none, h))) no_comment

pub blank_again : (number : ℕ) (line : List ℕ) → IsBlank line → line_at number line ≡ Ok None
unfolding line_at
blank_again number line (inl spaces) = let b : ((run is_space line == length line) || is_comment line) ≡ true =
    or_left _ _ (eq-eqb _ _ (run_whole is_space line spaces)) in rw b refl
blank_again number line (inr comment) = let b : ((run is_space line == length line) || is_comment line) ≡ true =
    or_right _ _ comment in rw b refl

pub entry_line_again : (number : ℕ) (line : List ℕ) (e : InputTree) → IsEntry number line e
    → line_at number line ≡ Ok (Some e)
unfolding line_at
entry_line_again number line e is = rw (entry_not_blank number line e is, entry_again number line e is) refl

pub lines_again : (number : ℕ) (lines : List (List ℕ)) (es : List InputTree) → AreEntries number lines es
    → lines_at number lines ≡ Ok es
unfolding lines_at
lines_again number [] es are =
    ap (λ (xs : List InputTree). let r : Result (List InputTree) TextFault = Ok xs in r) (sym are)
lines_again number (line ∷ lines) es (inl blank) =
    rw (blank_again number line blank.0, lines_again (suc number) lines es blank.1) refl
lines_again number (line ∷ lines) es (inr entry) =
    rw (entry_line_again number line entry.0 entry.3, lines_again (suc number) lines entry.1 entry.4, entry.2) refl

-- ---- faults

pub err_is : {A : Type 0} (f g : TextFault) → (let left : Result A TextFault = Err f in left ≡ Err g) → f ≡ g
err_is f g e = cc

pub no_fault : {A : Type 0} (x : A) (f : TextFault) → (let left : Result A TextFault = Ok x in left ≡ Err f) → ⊥
no_fault x f e = cc

-- where a step fails, or what comes after it
pub bind_err : {A B : Type 0} (r : Result A TextFault) (f : A → Result B TextFault) (e : TextFault) → (r >>= f) ≡ Err e
    → (r ≡ Err e) ⊎ ((x : A) × (r ≡ Ok x) × (f x ≡ Err e))
bind_err (Ok x) f e h = inr (x, refl, h)
bind_err (Err d) f e h = inl (ap (λ (g : TextFault). Err g) (err_is d e h))

-- ---- whole texts

map_after : {A B C : Type 0} → (f : B → C) (g : A → B) (xs : List A) → map (λ x. f (g x)) xs ≡ map f (map g xs)
map_after f g [] = refl
map_after f g (x ∷ xs) = ap (λ (ys : List _). f (g x) ∷ ys) (map_after f g xs)

-- the parts of a text between its line feeds, each without a carriage return, are its lines
pub lines_are : {B : Type 0} → (now : B → List ℕ) (parts : List B) (text : List ℕ)
    → map now parts ≡ slice_split (λ b. b == 10) text
    → map (λ part. strip_carriage_return (now part)) parts ≡ lines_of text
lines_are now parts text e = map_after strip_carriage_return now parts ∙ ap (map strip_carriage_return) e

pub inputs_took : (text : List ℕ) (lines : List (List ℕ)) (es : List InputTree) → lines ≡ lines_of text
    → length text ≤ MAX_INPUTS_BYTES → lines_at 1 lines ≡ Ok es → IsInputsText text es
inputs_took text lines es same small read =
    record { small = small; entries = lines_took 1 (lines_of text) es (ap (lines_at 1) (sym same) ∙ read) }

pub one_inputs : (text : List ℕ) (lines : List (List ℕ)) (found es : List InputTree) → lines ≡ lines_of text
    → lines_at 1 lines ≡ Ok found → IsInputsText text es → found ≡ es
one_inputs text lines found es same read is =
    same_value found es (sym read ∙ ap (lines_at 1) same ∙ lines_again 1 (lines_of text) es is.entries)

pub failed_no_text : (text : List ℕ) (lines : List (List ℕ)) (f : TextFault) (es : List InputTree)
    → lines ≡ lines_of text → Fails f (lines_at 1 lines) → IsInputsText text es → f ≡ NoMemory
failed_no_text text lines NoMemory es same h is = refl
failed_no_text text lines (BadToken line) es same h is =
    absurd (no_fault es (BadToken line) (sym (ap (lines_at 1) same ∙ lines_again 1 (lines_of text) es is.entries) ∙ h))
failed_no_text text lines (Unexpected line) es same h is =
    absurd (no_fault es (Unexpected line)
    (sym (ap (lines_at 1) same ∙ lines_again 1 (lines_of text) es is.entries) ∙ h))
failed_no_text text lines (NumberRange line) es same h is =
    absurd (no_fault es (NumberRange line)
    (sym (ap (lines_at 1) same ∙ lines_again 1 (lines_of text) es is.entries) ∙ h))
failed_no_text text lines (TooLong line) es same h is =
    absurd (no_fault es (TooLong line) (sym (ap (lines_at 1) same ∙ lines_again 1 (lines_of text) es is.entries) ∙ h))
