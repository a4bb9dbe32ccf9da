-- The fault of an inputs text: its first line that isn't right, and what is wrong with that.
use Rattle.std.proofs.Common.{◌≡◌, ℕ, suc, ◌+◌, ◌<◌, ◌≤◌, ◌⊎◌, inl, inr, Bool, true, false, cond, ◌||◌, ltb, List, []}
use Rattle.std.proofs.Common.{◌∷◌, ◌++◌, length, take, drop, get_or, Option, Some, None, Result, Ok, Err, ℤ, refl, sym}
use Rattle.std.proofs.Common.{ap, subst, ◌∙◌, arith, append_assoc, length-append, length-take, add-zero}
use Rattle.std.proofs.Common.{take-append-drop, zero}
use Rattle.std.specs.Prelude.{◌==◌, slice_index, All}
use Rattle.std.specs.List.{list_all}
use Rattle.std.specs.Char.{is_ascii_digit}
use Rattle.std.proofs.lemmas.Bool.{and_parts, eqb-true, eqb-false, eq-eqb, ne_eqb, both_ways, cases_lt, ltb-true}
use Rattle.std.proofs.lemmas.Bool.{ltb-false, or_right, or_from}
use Rattle.std.proofs.lemmas.List.{append-nil, take_at, get_or-take}
use Rattle.net_text.specs.Spellings.{starts_word, continues_word, is_word}
use Rattle.net_text.specs.Trees.{InputTree}
use Rattle.net_text.specs.InputLines.{is_space, is_comment, ends_in_digit, IsBlank, IsEntry, IsRightLine, BeginsLine}
use Rattle.net_text.specs.InputLines.{IsStuck, IsMoreDigits, IsOutOfRange, IsLongName, IsNameAlone, IsBadAtByte}
use Rattle.net_text.specs.InputLines.{IsBadLine, IsInputsFault, lines_of, EndsInMinus, IsMoreName, AreEntries}
use Rattle.net_text.specs.InputLines.{IsInputsText}
use Rattle.net_text.specs.InputReading.{Fails, run, items_at, after_name, entry_at, with_entry, line_at, lines_at}
use Rattle.net_text.proofs.Runs.{run_le, run_all, run_stops, whole_run}
use Rattle.net_text.proofs.Lexemes.{word_continues, word_from_run, starts_bounds, starts_continues, passes_at}
use Rattle.net_text.proofs.Items.{after_name_is}
use Rattle.net_text.proofs.InputLaws.{chosen, run_append, IsLine, line_took, blank_again, entry_line_again, err_is}
use Rattle.net_text.proofs.InputLaws.{no_fault, bind_err}
use Rattle.net_text.proofs.ItemFaults.{StuckAt, BadAt, OutAt, FaultAt, items_fault, lift_stuck, lift_minus, edge_kind}
use Rattle.net_text.proofs.ItemFaults.{ends_plain, ends_later, spaces_end, cut_at, cut_behind, take_behind}
use Rattle.net_text.proofs.ItemFaults.{run_at_least, all_front, take_less}
use Rattle.net_text.proofs.FaultLines.{IsOn, line_on}
use Rattle.std.proofs.lemmas.List.Elements.{All-cons, All-nil}
use Rattle.net_text.proofs.Sequences.{went_on}
use Rattle.net_text.specs.declared.fault.TextFault.{TextFault}
use Rattle.net_text.specs.declared.fault.TextFault.TheVariants.{NoMemory, BadToken, Unexpected, NumberRange, TooLong}
use Rattle.net_text.specs.declared.limits.TheConstants.{MAX_INPUTS_BYTES, MAX_NAME_BYTES}
use Rattle.net_text.specs.Results.{◌>>=◌}

-- ---- right lines, and how they begin

-- what begins with a letter or _ is no blank line
word_not_blank : (b : ℕ) (bs : List ℕ) → starts_word b ≡ true → IsBlank (b ∷ bs) → ⊥
word_not_blank b bs start (inl spaces) = let s = starts_bounds b start in let e =
    eqb-true b 32 (and_parts (is_space b) (list_all is_space bs) spaces).0 in omega arith
word_not_blank b bs start (inr comment) = let s = starts_bounds b start in let e = eqb-true b 35 comment in omega arith

-- an entry begins with its name, and a colon is behind it
entry_run : (number : ℕ) (line : List ℕ) (e : InputTree) → IsEntry number line e
    → (run continues_word line ≡ length e.name.text) × (0 < length e.name.text)
    × (get_or line (length e.name.text) 0 ≡ 58)
entry_run number line e is =
    let name = e.name.text in (
      ap (run continues_word) is.parts
          ∙ run_append continues_word name (58 ∷ is.rest) (word_continues name is.word) refl,
      some name is.word,
      ap
          (λ (s : List ℕ). get_or s (length name) 0) is.parts ∙ colon_at name is.rest,
    )
  where
    some : (name : List ℕ) → is_word name ≡ true → 0 < length name
    some [] word = absurd cc
    some (b ∷ name) word = omega arith

    colon_at : (name rest : List ℕ) → get_or (name ++ 58 ∷ rest) (length name) 0 ≡ 58
    colon_at [] rest = refl
    colon_at (b ∷ name) rest = colon_at name rest

entry_first : (number b : ℕ) (bs : List ℕ) (e : InputTree) → IsEntry number (b ∷ bs) e → starts_word b ≡ true
entry_first number b bs e is = first_of e.name.text is.word is.parts
  where
    first_of : (name : List ℕ) → is_word name ≡ true → b ∷ bs ≡ name ++ 58 ∷ is.rest → starts_word b ≡ true
    first_of [] word parts = absurd cc
    first_of (c ∷ name) word parts =
        ap (λ (s : List ℕ). starts_word (get_or s 0 0)) parts
        ∙ (and_parts (starts_word c) (list_all continues_word name) word).0

-- a right line is read, whatever number it has
right_read : (number : ℕ) (line : List ℕ) → IsRightLine line → (x : Option InputTree) × (line_at number line ≡ Ok x)
right_read number line (inl blank) = (None, blank_again number line blank)
right_read number line (inr entry) =
    let is = entry.1 in
    let e : InputTree = record { name = record { text = entry.0.name.text; line = number }; items = entry.0.items } in (
      Some e,
      entry_line_again number line e
          (record {
            rest = is.rest;
            parts = is.parts;
            word = is.word;
            short = is.short;
            line_is = refl;
            items = is.items;
          }),
    )

-- and what is read is right
read_right : (number : ℕ) (line : List ℕ) (x : Option InputTree) → line_at number line ≡ Ok x → IsRightLine line
unfolding IsLine
read_right number line None e = inl (line_took number line None e)
read_right number line (Some t) e =
    let is = line_took number line (Some t) e in
    inr (
      t,
      record
          { rest = is.rest; parts = is.parts; word = is.word; short = is.short; line_is = refl; items = is.items },
    )

-- where the reader of lines is stuck, so is the line
stuck_line : (number : ℕ) (line front : List ℕ) (byte : ℕ) → StuckAt (line_at number) line front byte
    → IsStuck line front byte
stuck_line number line front byte s = record {
  rest = s.rest;
  parts = s.parts;
  begins = (s.more, read_right number (front ++ s.more) s.found s.goes);
  ends = λ begun.
      let r = right_read number ((front ++ byte ∷ []) ++ begun.0) begun.1 in
      s.never begun.0 r.0 (ap (line_at number) (simp append_assoc) ∙ r.1);
}

-- ---- an entry's faults

-- what the reader of a line says of one with a name and a colon
entry_with : ℕ → List ℕ → List ℤ → Option InputTree
entry_with number name items = Some (record { name = record { text = name; line = number }; items = items })

line_entry : (number : ℕ) (line : List ℕ) → ((run is_space line == length line) || is_comment line) ≡ false
    → line_at number line ≡ (entry_at number line >>= λ x. Ok (Some x))
unfolding line_at
line_entry number line e = rw e refl

entry_name : (number : ℕ) (line : List ℕ) → starts_word (get_or line 0 0) ≡ true
    → entry_at number line ≡ after_name number (run continues_word line) line
unfolding entry_at
entry_name number line e = rw e refl

word_line : (b : ℕ) (bs : List ℕ) → starts_word b ≡ true
    → ((run is_space (b ∷ bs) == length (b ∷ bs)) || is_comment (b ∷ bs)) ≡ false
word_line b bs start =
    let bounds = starts_bounds b start in
    let no_space : is_space b ≡ false = ne_eqb b 32 (λ h. omega arith) in
    let no_comment : (b == 35) ≡ false = ne_eqb b 35 (λ h. omega arith) in
    let none_there : run is_space (b ∷ bs) ≡ 0 = rw no_space refl in
    or_from _ _ (ne_eqb _ _ (λ h. omega (arith, none_there, h))) no_comment

colon_there : (name t : List ℕ) → get_or (name ++ 58 ∷ t) (length name) 0 ≡ 58
colon_there [] t = refl
colon_there (c ∷ name) t = colon_there name t

past_colon : (name t : List ℕ) → drop (suc (length name)) (name ++ 58 ∷ t) ≡ t
past_colon [] t = refl
past_colon (c ∷ name) t = past_colon name t

abbrev tree_of : ℕ → List ℕ → List ℤ → Result InputTree TextFault
tree_of number name items = Ok (record { name = record { text = name; line = number }; items = items })

named_entry : (number : ℕ) (name t : List ℕ) → is_word name ≡ true → length name ≤ MAX_NAME_BYTES
    → line_at number (name ++ 58 ∷ t) ≡ ((items_at number t >>= tree_of number name) >>= λ x. Ok (Some x))
named_entry number [] t word short = absurd cc
named_entry number (b ∷ name) t word short =
    let line = (b ∷ name) ++ 58 ∷ t in
    let start = (and_parts (starts_word b) (list_all continues_word name) word).0 in
    let len : run continues_word line ≡ length (b ∷ name) =
    run_append continues_word (b ∷ name) (58 ∷ t) (word_continues (b ∷ name) word) refl in
    let whole = length-append (b ∷ name) (58 ∷ t) in
    let after = after_name_is number (length (b ∷ name)) line short (λ h. omega arith) (colon_there (b ∷ name) t) in
    let some =
    λ (r : Result InputTree TextFault). (let o : Result (Option InputTree) TextFault = (r >>= λ x. Ok (Some x)) in
    o) in
    line_entry number line (word_line b (name ++ 58 ∷ t) start)
    ∙ ap some (entry_name number line start ∙ ap (λ (k : ℕ). after_name number k line) len ∙ after
    ∙ ap (λ (s : List ℕ). items_at number s >>= tree_of number (take (length (b ∷ name)) line))
    (past_colon (b ∷ name) t)
    ∙ ap (λ (n : List ℕ). items_at number t >>= tree_of number n)
    (take_at (b ∷ name) (58 ∷ t) (length (b ∷ name)) refl))

is_named : (number : ℕ) (name s : List ℕ) → is_word name ≡ true → length name ≤ MAX_NAME_BYTES
    → line_at number ((name ++ 58 ∷ []) ++ s) ≡ ((items_at number s >>= tree_of number name) >>= λ x. Ok (Some x))
is_named number name s word short = ap (line_at number) (simp append_assoc) ∙ named_entry number name s word short

-- an entry is read where its items are
named_up : (number : ℕ) (name : List ℕ) → is_word name ≡ true → length name ≤ MAX_NAME_BYTES
    → (s : List ℕ) (items : List ℤ) → items_at number s ≡ Ok items
    → (y : Option InputTree) × (line_at number ((name ++ 58 ∷ []) ++ s) ≡ Ok y)
named_up number name word short s items e = (
  Some (record { name = record { text = name; line = number }; items = items }),
  is_named number name s word short
      ∙ ap (λ (r : Result (List ℤ) TextFault). (r >>= tree_of number name) >>= λ x. Ok (Some x)) e,
)

named_down : (number : ℕ) (name t : List ℕ) → is_word name ≡ true → length name ≤ MAX_NAME_BYTES
    → (s : List ℕ) (y : Option InputTree) → get_or s 0 0 ≡ get_or t 0 0 → 0 < length s
    → line_at number ((name ++ 58 ∷ []) ++ s) ≡ Ok y
    → (items : List ℤ) × (items_at number s ≡ Ok items)
named_down number name t word short s y same some e =
    let a = went_on (items_at number s >>= tree_of number name) (λ x. Ok (Some x)) y
    (sym (is_named number name s word short) ∙ e) in
    let b = went_on (items_at number s) (tree_of number name) a.0 a.1 in
    (b.0, b.1)

-- what is wrong with a line, by its fault
IsBadBy : TextFault → List ℕ → Type 0
IsBadBy NoMemory line = ⊥
IsBadBy (BadToken number) line = IsBadAtByte line
IsBadBy (Unexpected number) line = IsNameAlone line
IsBadBy (NumberRange number) line = IsOutOfRange line
IsBadBy (TooLong number) line = IsLongName line

word_has_no_colon : (name items : List ℕ) → is_word (name ++ 58 ∷ items) ≡ true → ⊥
word_has_no_colon name items word = continues name (word_continues (name ++ 58 ∷ items) word)
  where
    continues : (name : List ℕ) → list_all continues_word (name ++ 58 ∷ items) ≡ true → ⊥
    continues [] h = absurd cc
    continues (b ∷ name) h =
        continues name (and_parts (continues_word b) (list_all continues_word (name ++ 58 ∷ items)) h).1

-- no item ends in a digit where the line before it doesn't
no_digits : (front : List ℕ) (byte : ℕ) → (is_ascii_digit byte ≡ false) ⊎ (ends_in_digit front ≡ false)
    → IsMoreDigits front byte → ⊥
no_digits front byte (inl other) more = both_ways (is_ascii_digit byte) other more.0
no_digits front byte (inr other) more =
    both_ways (ends_in_digit front) other
    (ap ends_in_digit more.1.2 ∙ ends_plain more.1.0 (58 ∷ more.1.1) (ends_plain (58 ∷ []) more.1.1 more.1.3))

colon_in : (name front : List ℕ) → (name ++ 58 ∷ []) ++ front ≡ name ++ 58 ∷ front
colon_in [] front = refl
colon_in (b ∷ name) front = ap (λ (s : List ℕ). b ∷ s) (colon_in name front)

-- the name and the colon, and items in which reading is stuck
named_wrong : (number : ℕ) (name t : List ℕ) (f : TextFault) → is_word name ≡ true → length name ≤ MAX_NAME_BYTES
    → FaultAt (items_at number) t f → IsBadBy f ((name ++ 58 ∷ []) ++ t)
unfolding IsBadBy FaultAt BadAt OutAt
named_wrong number name t NoMemory word short h = h
named_wrong number name t (BadToken line) word short (inl bad) =
    let pre = name ++ 58 ∷ [] in
    let front = pre ++ bad.0 in
    let stuck =
    lift_stuck (line_at number) (items_at number) pre t (named_up number name word short)
    (named_down number name t word short) bad.0 bad.1 bad.2 in
    let kind =
    edge_kind (line_at number) (items_at number) pre t (named_up number name word short)
    (named_down number name t word short) (inr (ends_later name 58 [])) bad.0 bad.1 bad.2.rest bad.2.parts bad.3 in
    inl (
      front,
      bad.1,
      stuck_line number (pre ++ t) front bad.1 stuck,
      no_digits front bad.1 kind,
      λ more. word_has_no_colon name bad.0 (ap is_word (sym (colon_in name bad.0)) ∙ more.1),
    )
named_wrong number name t (BadToken line) word short (inr minus) =
    let m = lift_minus (line_at number) (items_at number) (name ++ 58 ∷ []) t (named_up number name word short)
    (named_down number name t word short) minus in
    inr (record {
      front = m.front;
      parts = m.parts;
      begins =
          (m.more, read_right number (((name ++ 58 ∷ []) ++ t) ++ m.more) m.found m.goes);
    })
named_wrong number name t (Unexpected line) word short h = absurd h
named_wrong number name t (NumberRange line) word short out =
    let pre = name ++ 58 ∷ [] in
    let stuck =
    lift_stuck (line_at number) (items_at number) pre t (named_up number name word short)
    (named_down number name t word short) out.0 out.1 out.2 in (
      pre ++ out.0,
      out.1,
      stuck_line number (pre ++ t) (pre ++ out.0) out.1 stuck,
      (out.3, (name, out.0, colon_in name out.0, out.4)),
    )
named_wrong number name t (TooLong line) word short h = absurd h

-- ---- faults before the items

all_behind : (p : ℕ → Bool) (xs : List ℕ) (y : ℕ) (ys : List ℕ) → list_all p (xs ++ y ∷ ys) ≡ true → p y ≡ true
all_behind p [] y ys h = (and_parts (p y) (list_all p ys) h).0
all_behind p (x ∷ xs) y ys h = all_behind p xs y ys (and_parts (p x) (list_all p (xs ++ y ∷ ys)) h).1

-- spaces, and then what begins no line behind them
spaces_then : (front : List ℕ) (byte : ℕ) (rest : List ℕ) → list_all is_space front ≡ true → is_space byte ≡ false
    → (front ≡ [] → (byte == 35) ≡ false) → (front ≡ [] → starts_word byte ≡ false)
    → IsRightLine (front ++ byte ∷ rest) → ⊥
spaces_then [] byte rest spaces plain comment start (inl (inl all)) =
    both_ways (is_space byte) plain (and_parts (is_space byte) (list_all is_space rest) all).0
spaces_then [] byte rest spaces plain comment start (inl (inr is)) = both_ways (byte == 35) (comment refl) is
spaces_then [] byte rest spaces plain comment start (inr entry) =
    both_ways (starts_word byte) (start refl) (entry_first entry.0.name.line byte rest entry.0 entry.1)
spaces_then (b ∷ front) byte rest spaces plain comment start (inl (inl all)) =
    both_ways (is_space byte) plain (all_behind is_space (b ∷ front) byte rest all)
spaces_then (b ∷ front) byte rest spaces plain comment start (inl (inr is)) =
    let space = eqb-true b 32 (and_parts (is_space b) (list_all is_space front) spaces).0 in
    let hash = eqb-true b 35 is in
    omega arith
spaces_then (b ∷ front) byte rest spaces plain comment start (inr entry) =
    let space = eqb-true b 32 (and_parts (is_space b) (list_all is_space front) spaces).0 in
    let bounds = starts_bounds b (entry_first entry.0.name.line b (front ++ byte ∷ rest) entry.0 entry.1) in
    omega arith

spaces_no_word : (front : List ℕ) → list_all is_space front ≡ true → is_word front ≡ true → ⊥
spaces_no_word [] spaces word = cc
spaces_no_word (b ∷ front) spaces word =
    let space = eqb-true b 32 (and_parts (is_space b) (list_all is_space front) spaces).0 in
    let bounds = starts_bounds b (and_parts (starts_word b) (list_all continues_word front) word).0 in
    omega arith

spaces_wrong : (line : List ℕ) → run is_space line < length line → is_comment line ≡ false
    → starts_word (get_or line 0 0) ≡ false → IsBadAtByte line
spaces_wrong line some comment start =
    let k = run is_space line in
    let front = take k line in
    let byte = get_or line k 0 in
    let spaces = run_all is_space line in
    let plain = run_stops is_space line some in
    let len = length-take k line in
    let at_first = λ (e : front ≡ []). (let l = ap length e in let z : k ≡ 0 = omega arith in z) in
    let never = λ (rest : List ℕ). spaces_then front byte rest spaces plain
    (λ e. ap (λ (j : ℕ). get_or line j 0 == 35) (at_first e) ∙ hash line comment)
    (λ e. ap (λ (j : ℕ). starts_word (get_or line j 0)) (at_first e) ∙ start) in
    inl (
      front,
      byte,
      record {
        rest = drop (suc k) line;
        parts = cut_at k line some;
        begins = ([], inl (inl (ap (list_all is_space) (append-nil front) ∙ spaces)));
        ends = λ begun. never begun.0 (subst IsRightLine (simp append_assoc) begun.1);
      },
      no_digits front byte (inr (spaces_end front spaces)),
      λ more. spaces_no_word front spaces more.1,
    )
  where
    hash : (line : List ℕ) → is_comment line ≡ false → (get_or line 0 0 == 35) ≡ false
    hash [] comment = refl
    hash (b ∷ bs) comment = comment

-- a word begins a line, by the colon behind it
word_begins : (name : List ℕ) → is_word name ≡ true → length name ≤ MAX_NAME_BYTES → BeginsLine name
word_begins name word short = (
  58 ∷ [],
  inr (
    record { name = record { text = name; line = 0 }; items = [] },
    record
        { rest = []; parts = refl; word = word; short = short; line_is = refl; items = refl },
  ),
)

word_then_blank : (name rest : List ℕ) → is_word name ≡ true → IsBlank (name ++ rest) → ⊥
word_then_blank [] rest word blank = absurd cc
word_then_blank (b ∷ name) rest word blank =
    word_not_blank b (name ++ rest) (and_parts (starts_word b) (list_all continues_word name) word).0 blank

-- the word at the front of a line
front_word : (j : ℕ) (line : List ℕ) → starts_word (get_or line 0 0) ≡ true → 0 < j → j ≤ run continues_word line
    → is_word (take j line) ≡ true
front_word j line start some le =
    let within = run_le continues_word line in
    let len = length-take j line in
    let all =
    subst (λ (bs : List ℕ). list_all continues_word bs ≡ true) (take_less j (run continues_word line) line le)
    (all_front continues_word j (take (run continues_word line) line) (run_all continues_word line)) in
    word_from_run (take j line) (omega arith) (ap starts_word (get_or-take j line 0 0 some) ∙ start) all

long_wrong : (line : List ℕ) → starts_word (get_or line 0 0) ≡ true → MAX_NAME_BYTES < run continues_word line
    → IsLongName line
long_wrong line start long =
    let j = MAX_NAME_BYTES in
    let n = run continues_word line in
    let within = run_le continues_word line in
    let front = take j line in
    let byte = get_or line j 0 in
    let len : length front ≡ j = let l = length-take j line in omega arith in
    let word = front_word j line start (omega arith) (omega arith) in
    let taken = length-take n line in
    let goes_on : continues_word byte ≡ true =
    ap continues_word (sym (get_or-take n line j 0 long))
    ∙ passes_at continues_word (take n line) j (run_all continues_word line) (omega arith) in
    let all : list_all continues_word (take (suc j) line) ≡ true =
    word_continues (take (suc j) line) (front_word (suc j) line start (omega arith) long) in (
      front,
      byte,
      record {
        rest = drop (suc j) line;
        parts = cut_at j line (omega arith);
        begins = word_begins front word (omega arith);
        ends = λ begun. never front byte begun.0 word len
            (ap (list_all continues_word) (sym (cut_behind j line (omega arith))) ∙ all)
            (subst IsRightLine (simp append_assoc) begun.1);
      },
      (goes_on, word),
    )
  where
    never : (front : List ℕ) (byte : ℕ) (rest : List ℕ) → is_word front ≡ true → length front ≡ MAX_NAME_BYTES
        → list_all continues_word (front ++ byte ∷ []) ≡ true → IsRightLine (front ++ byte ∷ rest) → ⊥
    never front byte rest word len all (inl blank) = word_then_blank front (byte ∷ rest) word blank
    never front byte rest word len all (inr entry) =
        let r = entry_run entry.0.name.line (front ++ byte ∷ rest) entry.0 entry.1 in
        let short = entry.1.short in
        let whole = length-append front (byte ∷ rest) in
        let more =
        run_at_least continues_word (suc MAX_NAME_BYTES) (front ++ byte ∷ rest) (omega arith)
        (ap (list_all continues_word) (take_behind MAX_NAME_BYTES front byte rest len) ∙ all) in
        omega (arith, r.0)

at_cut : (front : List ℕ) (byte : ℕ) (rest : List ℕ) → get_or (front ++ byte ∷ rest) (length front) 0 ≡ byte
at_cut [] byte rest = refl
at_cut (b ∷ front) byte rest = at_cut front byte rest

-- a line that begins with a letter or _ begins with a name
run_positive : (b : ℕ) (line : List ℕ) → get_or line 0 0 ≡ b → starts_word b ≡ true
    → run continues_word line < length line → 0 < run continues_word line
run_positive b line e start some =
    elim (cases_lt 0 (run continues_word line)) as (λ _. 0 < run continues_word line) [
      | inl yes' ↦ yes'
      | inr none_there ↦
          let z : run continues_word line ≡ 0 = omega arith in
          absurd (both_ways (continues_word (get_or line 0 0))
          (ap (λ (k : ℕ). continues_word (get_or line k 0)) (sym z) ∙ run_stops continues_word line some)
          (starts_continues (get_or line 0 0) (ap starts_word e ∙ start)))
    ]

other_wrong : (line : List ℕ) → starts_word (get_or line 0 0) ≡ true → run continues_word line ≤ MAX_NAME_BYTES
    → run continues_word line < length line → (get_or line (run continues_word line) 0 == 58) ≡ false → IsBadAtByte line
other_wrong line start short some other =
    let n = run continues_word line in
    let front = take n line in
    let byte = get_or line n 0 in
    let stops = run_stops continues_word line some in
    let len : length front ≡ n = let l = length-take n line in omega arith in
    let positive = run_positive (get_or line 0 0) line refl start some in
    let word = front_word n line start positive (omega arith) in
    inl (
      front,
      byte,
      record {
        rest = drop (suc n) line;
        parts = cut_at n line some;
        begins = word_begins front word (omega arith);
        ends = λ begun. never front byte begun.0 word stops other (subst IsRightLine (simp append_assoc) begun.1);
      },
      no_digits front byte (inl (no_digit byte stops)),
      λ more. both_ways (continues_word byte) stops more.0,
    )
  where
    never : (front : List ℕ) (byte : ℕ) (rest : List ℕ) → is_word front ≡ true → continues_word byte ≡ false
        → (byte == 58) ≡ false → IsRightLine (front ++ byte ∷ rest) → ⊥
    never front byte rest word stops other (inl blank) = word_then_blank front (byte ∷ rest) word blank
    never front byte rest word stops other (inr entry) =
        let r = entry_run entry.0.name.line (front ++ byte ∷ rest) entry.0 entry.1 in
        let same : length entry.0.name.text ≡ length front =
        sym r.0 ∙ run_append continues_word front (byte ∷ rest) (word_continues front word) stops in
        let colon : byte ≡ 58 =
        sym (at_cut front byte rest) ∙ ap (λ (j : ℕ). get_or (front ++ byte ∷ rest) j 0) (sym same) ∙ r.2 in
        both_ways (byte == 58) other (eq-eqb byte 58 colon)

    no_digit : (b : ℕ) → continues_word b ≡ false → is_ascii_digit b ≡ false
    no_digit b stops = by_digit (is_ascii_digit b) refl
      where
        by_digit : (c : Bool) → is_ascii_digit b ≡ c → is_ascii_digit b ≡ false
        by_digit true digit =
            absurd (both_ways (continues_word b) stops (or_right (starts_word b) (is_ascii_digit b) digit))
        by_digit false e = e

name_alone : (line : List ℕ) → run continues_word line ≡ length line → starts_word (get_or line 0 0) ≡ true
    → run continues_word line ≤ MAX_NAME_BYTES → IsNameAlone line
name_alone [] all start short = absurd cc
name_alone (b ∷ bs) all start short =
    (word_from_run (b ∷ bs) (omega arith) start (whole_run continues_word (b ∷ bs) all), omega arith)

-- ---- a line, and a text

line_wrong : (number : ℕ) (line : List ℕ) (f : TextFault) → line_at number line ≡ Err f → IsBadBy f line
unfolding line_at entry_at after_name IsBadBy
line_wrong number line f e =
    elim (pick ((run is_space line == length line) || is_comment line) (Ok None)
    (entry_at number line >>= λ x. Ok (Some x)) e) as (λ _. IsBadBy f line) [
      | inl blank ↦ absurd (no_fault None f blank.1)
      | inr other ↦
          let spaces = eqb-false _ _ (or_false (run is_space line == length line) (is_comment line) other.0).0 in
          let comment = (or_false (run is_space line == length line) (is_comment line) other.0).1 in
          let le = run_le is_space line in
          let entry = from_entry other.1 in
          elim (pick (starts_word (slice_index line 0)) (after_name number (run continues_word line) line)
          (Err (BadToken number)) entry) as (λ _. IsBadBy f line) [
            | inl word ↦ by_name word.0 word.1
            | inr plain ↦ subst (λ (g : TextFault). IsBadBy g line) (err_is (BadToken number) f plain.1)
                (spaces_wrong line (omega arith) comment plain.0)
          ]
    ]
  where
    pick : {A : Type 0} (b : Bool) (x y : Result A TextFault) → cond b x y ≡ Err f
        → ((b ≡ true) × (x ≡ Err f)) ⊎ ((b ≡ false) × (y ≡ Err f))
    pick b x y h = chosen b x y (Err f) h

    or_false : (a b : Bool) → (a || b) ≡ false → (a ≡ false) × (b ≡ false)
    or_false true b h = absurd cc
    or_false false b h = (refl, h)

    from_entry : (entry_at number line >>= λ x. let o : Result (Option InputTree) TextFault = Ok (Some x) in o) ≡ Err f
        → entry_at number line ≡ Err f
    from_entry h =
        elim (bind_err (entry_at number line) (λ x. Ok (Some x)) f h) as (λ _. entry_at number line ≡ Err f)
        [ inl there ↦ there | inr never ↦ absurd (no_fault (Some never.0) f never.2) ]

    by_name : starts_word (get_or line 0 0) ≡ true → after_name number (run continues_word line) line ≡ Err f
        → IsBadBy f line
    by_name start h =
        let n = run continues_word line in
        let le = run_le continues_word line in
        elim (pick (ltb MAX_NAME_BYTES n) (Err (TooLong number))
        (cond (n == length line) (Err (Unexpected number))
        (cond (slice_index line n == 58) (items_at number (drop (suc n) line) >>= tree_of number (take n line))
        (Err (BadToken number)))) h) as (λ _. IsBadBy f line) [
          | inl long ↦ subst (λ (g : TextFault). IsBadBy g line) (err_is (TooLong number) f long.1)
              (long_wrong line start (ltb-true MAX_NAME_BYTES n long.0))
          | inr short ↦
              let is_short = ltb-false MAX_NAME_BYTES n short.0 in
              elim (pick (n == length line) (Err (Unexpected number))
              (cond (slice_index line n == 58)
              (items_at number (drop (suc n) line) >>= tree_of number (take n line)) (Err (BadToken number)))
              short.1) as (λ _. IsBadBy f line) [
                | inl all ↦ subst (λ (g : TextFault). IsBadBy g line) (err_is (Unexpected number) f all.1)
                    (name_alone line (eqb-true n (length line) all.0) start (omega arith))
                | inr some ↦
                    let ne = eqb-false n (length line) some.0 in
                    elim (pick (slice_index line n == 58)
                    (items_at number (drop (suc n) line) >>= tree_of number (take n line)) (Err (BadToken number))
                    some.1) as (λ _. IsBadBy f line) [
                      | inl colon ↦
                          let parts : (take n line ++ 58 ∷ []) ++ drop (suc n) line ≡ line =
                          colon_in (take n line) (drop (suc n) line)
                          ∙ ap (λ (b : ℕ). take n line ++ b ∷ drop (suc n) line) (sym (eqb-true _ _ colon.0))
                          ∙ sym (cut_at n line (omega arith)) in
                          let len = length-take n line in
                          let bad =
                          elim (bind_err (items_at number (drop (suc n) line)) (tree_of number (take n line)) f
                          colon.1) as (λ _. items_at number (drop (suc n) line) ≡ Err f) [
                            | inl there ↦ there
                            | inr never ↦ absurd
                                (no_fault
                                (record { name = record { text = take n line; line = number }; items = never.0 }) f
                                never.2)
                          ] in
                          subst (IsBadBy f) parts
                          (named_wrong number (take n line) (drop (suc n) line) f
                          (front_word n line start (run_positive (get_or line 0 0) line refl start (omega arith))
                          (omega arith)) (omega arith)
                          (items_fault number (suc (length (drop (suc n) line))) (drop (suc n) line) f
                          (omega arith) bad))
                      | inr byte ↦ subst (λ (g : TextFault). IsBadBy g line) (err_is (BadToken number) f byte.1)
                          (other_wrong line start (omega arith) (omega arith) byte.0)
                    ]
              ]
        ]

-- the line at which reading fails, behind lines that are read
record Failed (number : ℕ) (lines : List (List ℕ)) (f : TextFault) : Type 0 where
  before : List (List ℕ)
  line : List ℕ
  after : List (List ℕ)
  parts : lines ≡ before ++ line ∷ after
  right : All IsRightLine before
  fails : line_at (number + length before) line ≡ Err f

lines_fault : (number : ℕ) (lines : List (List ℕ)) (f : TextFault) → lines_at number lines ≡ Err f
    → Failed number lines f
unfolding lines_at
lines_fault number [] f e = absurd (no_fault _ f e)
lines_fault number (line ∷ lines) f e =
    elim (bind_err (line_at number line) (λ x. lines_at (suc number) lines >>= λ others. Ok (with_entry x others)) f
    e) as (λ _. Failed number (line ∷ lines) f) [
      | inl here ↦ record {
        before = [];
        line = line;
        after = lines;
        parts = refl;
        right = All-nil IsRightLine;
        fails =
            subst (λ (n : ℕ). line_at n line ≡ Err f) (sym (add-zero number)) here;
      }
      | inr later ↦
          elim (bind_err (lines_at (suc number) lines) (λ others. Ok (with_entry later.0 others)) f
          later.2) as (λ _. Failed number (line ∷ lines) f) [
            | inl there ↦
                let h = lines_fault (suc number) lines f there in
                let same : suc number + length h.before ≡ number + suc (length h.before) = omega arith in
                record {
                  before = line ∷ h.before;
                  line = h.line;
                  after = h.after;
                  parts = ap (λ (ls : List (List ℕ)). line ∷ ls) h.parts;
                  right = All-cons IsRightLine line h.before (read_right number line later.0 later.1) h.right;
                  fails = subst (λ (n : ℕ). line_at n h.line ≡ Err f) same h.fails;
                }
            | inr never ↦ absurd (no_fault _ f never.2)
          ]
    ]

bad_line : (text : List ℕ) (f : TextFault) (number : ℕ) (IsBad : List ℕ → Type 0) → length text ≤ MAX_INPUTS_BYTES
    → ((line : List ℕ) → IsBadBy f line → IsBad line) → Failed 1 (lines_of text) f
    → ((line : ℕ) → IsOn line f → number ≡ line) → IsBadLine text number IsBad
bad_line text f number IsBad small is h on =
    let here = on (1 + length h.before) (line_on (1 + length h.before) h.line f h.fails) in
    record {
      small = small;
      before = h.before;
      line = h.line;
      after = h.after;
      lines = h.parts;
      number_is = let z : number ≡ suc (length h.before) = omega arith in z;
      right = h.right;
      wrong = λ right. let x = right_read (1 + length h.before) h.line right in no_fault x.0 f (sym x.1 ∙ h.fails);
      bad = is h.line (line_wrong (1 + length h.before) h.line f h.fails);
    }

inputs_fault : (text : List ℕ) (f : TextFault) → length text ≤ MAX_INPUTS_BYTES → lines_at 1 (lines_of text) ≡ Err f
    → IsInputsFault text f
unfolding IsOn IsBadBy
inputs_fault text NoMemory small e = tt
inputs_fault text (BadToken line) small e =
    bad_line text (BadToken line) line IsBadAtByte small (λ l bad. bad)
    (lines_fault 1 (lines_of text) (BadToken line) e) (λ l on. on)
inputs_fault text (Unexpected line) small e =
    bad_line text (Unexpected line) line IsNameAlone small (λ l bad. bad)
    (lines_fault 1 (lines_of text) (Unexpected line) e) (λ l on. on)
inputs_fault text (NumberRange line) small e =
    bad_line text (NumberRange line) line IsOutOfRange small (λ l bad. bad)
    (lines_fault 1 (lines_of text) (NumberRange line) e) (λ l on. on)
inputs_fault text (TooLong line) small e =
    inr (bad_line text (TooLong line) line IsLongName small (λ l bad. bad)
    (lines_fault 1 (lines_of text) (TooLong line) e) (λ l on. on))

pub failed_inputs : (text : List ℕ) (lines : List (List ℕ)) (f : TextFault) → lines ≡ lines_of text
    → length text ≤ MAX_INPUTS_BYTES → Fails f (lines_at 1 lines) → IsInputsFault text f
failed_inputs text lines NoMemory same small h = tt
failed_inputs text lines (BadToken line) same small h =
    inputs_fault text (BadToken line) small (ap (lines_at 1) (sym same) ∙ h)
failed_inputs text lines (Unexpected line) same small h =
    inputs_fault text (Unexpected line) small (ap (lines_at 1) (sym same) ∙ h)
failed_inputs text lines (NumberRange line) same small h =
    inputs_fault text (NumberRange line) small (ap (lines_at 1) (sym same) ∙ h)
failed_inputs text lines (TooLong line) same small h =
    inputs_fault text (TooLong line) small (ap (lines_at 1) (sym same) ∙ h)

-- ---- a text has one fault

-- of two parts at the same place
same_front : (xs ys : List ℕ) (x y : ℕ) (us vs : List ℕ) → length xs ≡ length ys → xs ++ x ∷ us ≡ ys ++ y ∷ vs
    → (xs ≡ ys) × (x ≡ y)
same_front xs ys x y us vs len e = (
  sym (take_at xs (x ∷ us) (length xs) refl) ∙ ap (take (length xs)) e ∙ ap (λ (k : ℕ). take k (ys ++ y ∷ vs)) len
      ∙ take_at ys (y ∷ vs) (length ys) refl,
  sym (at_cut xs x us) ∙ ap (λ (bs : List ℕ). get_or bs (length xs) 0) e
      ∙ ap (λ (k : ℕ). get_or (ys ++ y ∷ vs) k 0) len ∙ at_cut ys y vs,
)

-- what begins a line begins one also cut short
cut_begins : (xs ys : List ℕ) → BeginsLine (xs ++ ys) → BeginsLine xs
cut_begins xs ys begun = (ys ++ begun.0, subst IsRightLine (simp append_assoc) begun.1)

-- a longer front has the shorter one with its byte
longer : (xs ys : List ℕ) (x y : ℕ) (us vs : List ℕ) → length xs < length ys → xs ++ x ∷ us ≡ ys ++ y ∷ vs
    → ys ≡ (xs ++ x ∷ []) ++ drop (suc (length xs)) ys
longer xs ys x y us vs less e =
    let front : take (suc (length xs)) ys ≡ xs ++ x ∷ [] =
    sym (take_early (suc (length xs)) ys (y ∷ vs) less) ∙ ap (take (suc (length xs))) (sym e)
    ∙ take_behind (length xs) xs x us refl in
    sym (take-append-drop (suc (length xs)) ys) ∙ ap (λ (bs : List ℕ). bs ++ drop (suc (length xs)) ys) front
  where
    take_early : (k : ℕ) (ys zs : List ℕ) → k ≤ length ys → take k (ys ++ zs) ≡ take k ys
    take_early zero ys zs le = refl
    take_early (suc k) [] zs le = absurd (omega arith)
    take_early (suc k) (y ∷ ys) zs le = ap (λ (bs : List ℕ). y ∷ bs) (take_early k ys zs (omega arith))

not_longer : (line xs ys : List ℕ) (x y : ℕ) → IsStuck line xs x → IsStuck line ys y → length xs < length ys → ⊥
not_longer line xs ys x y a b less =
    a.ends (cut_begins (xs ++ x ∷ []) (drop (suc (length xs)) ys)
    (subst BeginsLine (longer xs ys x y a.rest b.rest less (sym a.parts ∙ b.parts)) b.begins))

one_place : (line xs ys : List ℕ) (x y : ℕ) → IsStuck line xs x → IsStuck line ys y → (xs ≡ ys) × (x ≡ y)
one_place line xs ys x y a b =
    elim (cases_lt (length xs) (length ys)) as (λ _. (xs ≡ ys) × (x ≡ y)) [
      | inl less ↦ absurd (not_longer line xs ys x y a b less)
      | inr le ↦ elim (cases_lt (length ys) (length xs)) as (λ _. (xs ≡ ys) × (x ≡ y)) [
        | inl less ↦ absurd (not_longer line ys xs y x b a less)
        | inr ge ↦ same_front xs ys x y a.rest b.rest (let e : length xs ≡ length ys = omega arith in e)
            (sym a.parts ∙ b.parts)
      ]
    ]

-- a line that begins a right one is nowhere stuck
not_begun : (line front : List ℕ) (byte : ℕ) → IsStuck line front byte → BeginsLine line → ⊥
not_begun line front byte s begun =
    s.ends (cut_begins (front ++ byte ∷ []) s.rest (subst BeginsLine (s.parts ∙ simp append_assoc) begun))

name_begins : (line : List ℕ) → IsNameAlone line → BeginsLine line
name_begins line name = word_begins line name.0 name.1

no_minus : (line : List ℕ) → IsNameAlone line → EndsInMinus line → ⊥
no_minus line name minus =
    both_ways (continues_word 45) refl
    (all_behind continues_word minus.front 45 []
    (ap (list_all continues_word) (sym minus.parts) ∙ word_continues line name.0))

-- the kinds exclude each other
out_not_long : (line : List ℕ) → IsOutOfRange line → IsLongName line → ⊥
out_not_long line out long =
    let same = one_place line out.0 long.0 out.1 long.1 out.2 long.2 in
    word_has_no_colon out.3.1.0 out.3.1.1 (ap is_word (sym out.3.1.2 ∙ same.0) ∙ long.3.1)

bad_not_out : (line : List ℕ) → IsBadAtByte line → IsOutOfRange line → ⊥
bad_not_out line (inl bad) out =
    let same = one_place line out.0 bad.0 out.1 bad.1 out.2 bad.2 in
    bad.3 (subst (λ (b : ℕ). IsMoreDigits bad.0 b) same.1
    (subst (λ (front : List ℕ). IsMoreDigits front out.1) same.0 out.3))
bad_not_out line (inr minus) out = not_begun line out.0 out.1 out.2 minus.begins

bad_not_long : (line : List ℕ) → IsBadAtByte line → IsLongName line → ⊥
bad_not_long line (inl bad) long =
    let same = one_place line long.0 bad.0 long.1 bad.1 long.2 bad.2 in
    bad.4 (subst (λ (b : ℕ). IsMoreName bad.0 b) same.1
    (subst (λ (front : List ℕ). IsMoreName front long.1) same.0 long.3))
bad_not_long line (inr minus) long = not_begun line long.0 long.1 long.2 minus.begins

bad_not_alone : (line : List ℕ) → IsBadAtByte line → IsNameAlone line → ⊥
bad_not_alone line (inl bad) name = not_begun line bad.0 bad.1 bad.2 (name_begins line name)
bad_not_alone line (inr minus) name = no_minus line name minus

-- the first line that isn't right is one
at_place : (before : List (List ℕ)) (line : List ℕ) (after : List (List ℕ))
    → get_or (before ++ line ∷ after) (length before) [] ≡ line
at_place [] line after = refl
at_place (l ∷ before) line after = at_place before line after

early_place : (xs ys : List (List ℕ)) (k : ℕ) → k < length xs → get_or (xs ++ ys) k [] ≡ get_or xs k []
early_place [] ys k lt = absurd (omega arith)
early_place (x ∷ xs) ys zero lt = refl
early_place (x ∷ xs) ys (suc k) lt = early_place xs ys k (omega arith)

first_wrong : (before : List (List ℕ)) (line : List ℕ) (after others : List (List ℕ)) (other : List ℕ)
    (later : List (List ℕ)) → before ++ line ∷ after ≡ others ++ other ∷ later
    → All IsRightLine others → (IsRightLine line → ⊥) → length before < length others → ⊥
first_wrong before line after others other later e right wrong less =
    wrong (subst IsRightLine
    (sym (sym (at_place before line after) ∙ ap (λ (ls : List (List ℕ)). get_or ls (length before) []) e
    ∙ early_place others (other ∷ later) (length before) less)) (right (length before) [] less))

one_line : (text : List ℕ) (n m : ℕ) (A B : List ℕ → Type 0) (a : IsBadLine text n A) (b : IsBadLine text m B)
    → (n ≡ m) × (a.line ≡ b.line)
one_line text n m A B a b =
    let e : a.before ++ a.line ∷ a.after ≡ b.before ++ b.line ∷ b.after = sym a.lines ∙ b.lines in
    let x = a.number_is in
    let y = b.number_is in
    let at =
    λ (len : length a.before ≡ length b.before). (let z : (n ≡ m) × (a.line ≡ b.line) = (
      omega arith,
      sym (at_place a.before a.line a.after)
          ∙ ap (λ (ls : List (List ℕ)). get_or ls (length a.before) []) e
          ∙ ap (λ (k : ℕ). get_or (b.before ++ b.line ∷ b.after) k []) len ∙ at_place b.before b.line b.after,
    ) in z) in
    elim (cases_lt (length a.before) (length b.before)) as (λ _. (n ≡ m) × (a.line ≡ b.line)) [
      | inl less ↦ absurd (first_wrong a.before a.line a.after b.before b.line b.after e b.right a.wrong less)
      | inr le ↦ elim (cases_lt (length b.before) (length a.before)) as (λ _. (n ≡ m) × (a.line ≡ b.line)) [
        | inl less ↦ absurd (first_wrong b.before b.line b.after a.before a.line a.after (sym e) a.right b.wrong less)
        | inr ge ↦ at (omega arith)
      ]
    ]

apart : (text : List ℕ) (n m : ℕ) (A B : List ℕ → Type 0) → ((line : List ℕ) → A line → B line → ⊥)
    → IsBadLine text n A → IsBadLine text m B → ⊥
apart text n m A B never a b = let same = one_line text n m A B a b in never b.line (subst A same.1 a.bad) b.bad

alone_not_out : (line : List ℕ) → IsNameAlone line → IsOutOfRange line → ⊥
alone_not_out line name out = not_begun line out.0 out.1 out.2 (name_begins line name)

alone_not_long : (line : List ℕ) → IsNameAlone line → IsLongName line → ⊥
alone_not_long line name long = not_begun line long.0 long.1 long.2 (name_begins line name)

-- a text over its limit has no bad line that counts
over_long : (text : List ℕ) (n : ℕ) (A : List ℕ → Type 0) → MAX_INPUTS_BYTES < length text → IsBadLine text n A → ⊥
over_long text n A over bad = let small = bad.small in omega arith

long_lines : (text : List ℕ) (n m : ℕ) → ((MAX_INPUTS_BYTES < length text) × (n ≡ 1)) ⊎ IsBadLine text n IsLongName
    → ((MAX_INPUTS_BYTES < length text) × (m ≡ 1)) ⊎ IsBadLine text m IsLongName → n ≡ m
long_lines text n m (inl a) (inl b) = a.1 ∙ sym b.1
long_lines text n m (inl a) (inr b) = absurd (over_long text m IsLongName a.0 b)
long_lines text n m (inr a) (inl b) = absurd (over_long text n IsLongName b.0 a)
long_lines text n m (inr a) (inr b) = (one_line text n m IsLongName IsLongName a b).0

not_long : (text : List ℕ) (n m : ℕ) (A : List ℕ → Type 0) → ((line : List ℕ) → A line → IsLongName line → ⊥)
    → IsBadLine text n A → ((MAX_INPUTS_BYTES < length text) × (m ≡ 1)) ⊎ IsBadLine text m IsLongName → ⊥
not_long text n m A never a (inl b) = over_long text n A b.0 a
not_long text n m A never a (inr b) = apart text n m A IsLongName never a b

one_fault : (text : List ℕ) (f g : TextFault) → IsInputsFault text f → IsInputsFault text g
    → (f ≡ NoMemory) ⊎ ((g ≡ NoMemory) ⊎ (g ≡ f))
one_fault text NoMemory g a b = inl refl
one_fault text (BadToken n) NoMemory a b = inr (inl refl)
one_fault text (BadToken n) (BadToken m) a b = inr (inr (ap BadToken (one_line text m n IsBadAtByte IsBadAtByte b a).0))
one_fault text (BadToken n) (Unexpected m) a b = absurd (apart text n m IsBadAtByte IsNameAlone bad_not_alone a b)
one_fault text (BadToken n) (NumberRange m) a b = absurd (apart text n m IsBadAtByte IsOutOfRange bad_not_out a b)
one_fault text (BadToken n) (TooLong m) a b = absurd (not_long text n m IsBadAtByte bad_not_long a b)
one_fault text (Unexpected n) NoMemory a b = inr (inl refl)
one_fault text (Unexpected n) (BadToken m) a b = absurd (apart text m n IsBadAtByte IsNameAlone bad_not_alone b a)
one_fault text (Unexpected n) (Unexpected m) a b =
    inr (inr (ap Unexpected (one_line text m n IsNameAlone IsNameAlone b a).0))
one_fault text (Unexpected n) (NumberRange m) a b = absurd (apart text n m IsNameAlone IsOutOfRange alone_not_out a b)
one_fault text (Unexpected n) (TooLong m) a b = absurd (not_long text n m IsNameAlone alone_not_long a b)
one_fault text (NumberRange n) NoMemory a b = inr (inl refl)
one_fault text (NumberRange n) (BadToken m) a b = absurd (apart text m n IsBadAtByte IsOutOfRange bad_not_out b a)
one_fault text (NumberRange n) (Unexpected m) a b = absurd (apart text m n IsNameAlone IsOutOfRange alone_not_out b a)
one_fault text (NumberRange n) (NumberRange m) a b =
    inr (inr (ap NumberRange (one_line text m n IsOutOfRange IsOutOfRange b a).0))
one_fault text (NumberRange n) (TooLong m) a b = absurd (not_long text n m IsOutOfRange out_not_long a b)
one_fault text (TooLong n) NoMemory a b = inr (inl refl)
one_fault text (TooLong n) (BadToken m) a b = absurd (not_long text m n IsBadAtByte bad_not_long b a)
one_fault text (TooLong n) (Unexpected m) a b = absurd (not_long text m n IsNameAlone alone_not_long b a)
one_fault text (TooLong n) (NumberRange m) a b = absurd (not_long text m n IsOutOfRange out_not_long b a)
one_fault text (TooLong n) (TooLong m) a b = inr (inr (ap TooLong (long_lines text m n b a)))

-- ---- what is answered

-- in a text of entries and blank lines each line is right
entries_right : (number : ℕ) (lines : List (List ℕ)) (es : List InputTree) → AreEntries number lines es
    → All IsRightLine lines
entries_right number [] es are = All-nil IsRightLine
entries_right number (line ∷ lines) es (inl blank) =
    All-cons IsRightLine line lines (inl blank.0) (entries_right (suc number) lines es blank.1)
entries_right number (line ∷ lines) es (inr entry) =
    let is = entry.3 in
    All-cons IsRightLine line lines
    (inr (
      entry.0,
      record
          { rest = is.rest; parts = is.parts; word = is.word; short = is.short; line_is = refl; items = is.items },
    ))
    (entries_right (suc number) lines entry.1 entry.4)

no_bad : (text : List ℕ) (n : ℕ) (A : List ℕ → Type 0) (es : List InputTree) → IsInputsText text es
    → IsBadLine text n A → ⊥
no_bad text n A es is bad =
    let right = subst (All IsRightLine) bad.lines (entries_right 1 (lines_of text) es is.entries) in
    let len = length-append bad.before (bad.line ∷ bad.after) in
    bad.wrong (subst IsRightLine (at_place bad.before bad.line bad.after) (right (length bad.before) [] (omega arith)))

-- a text that is read has no fault
pub read_no_fault : (text : List ℕ) (es : List InputTree) (f : TextFault) → IsInputsText text es → IsInputsFault text f
    → f ≡ NoMemory
read_no_fault text es NoMemory is fault = refl
read_no_fault text es (BadToken n) is fault = absurd (no_bad text n IsBadAtByte es is fault)
read_no_fault text es (Unexpected n) is fault = absurd (no_bad text n IsNameAlone es is fault)
read_no_fault text es (NumberRange n) is fault = absurd (no_bad text n IsOutOfRange es is fault)
read_no_fault text es (TooLong n) is (inl over) = let small = is.small in let large = over.0 in absurd (omega arith)
read_no_fault text es (TooLong n) is (inr fault) = absurd (no_bad text n IsLongName es is fault)

pub refused_by : (text : List ℕ) (g : TextFault) → IsInputsFault text g → (f : TextFault) → IsInputsFault text f
    → (f ≡ NoMemory) ⊎ ((g ≡ NoMemory) ⊎ (g ≡ f))
refused_by text g b f a = one_fault text f g a b
