-- Lines and their bytes.
use Rattle.std.proofs.Common.{◌≡◌, inl, inr, ℕ, suc, zero, ◌+◌, ◌-◌, ◌<◌, ◌≤◌, ◌^◌, ℤ, pos, negsuc, List, [], ◌∷◌, ◌++◌, length, take, drop, arith}
use Rattle.std.proofs.Common.{refl, sym, ◌∙◌, ap, subst, append_assoc}
use Rattle.std.proofs.Math.Seq.{take-nil, take-append-add, take-length}
use Rattle.std.proofs.lemmas.Bool.{cases_lt}
use Rattle.std.proofs.lemmas.List.{length-append, take-append-le, length-drop, length-take-le, drop-drop, append-nil}
use Rattle.std.proofs.Common.{Result, Ok}
use Rattle.std.proofs.lemmas.Fmt.{decimal_is_IsNumeral, signed_decimal_injective}
use Rattle.std.proofs.lemmas.Str.Parse.{digit_from_value}
use Rattle.std.specs.Fmt.{decimal, signed_decimal}
use Rattle.std.specs.Int.{w64}
use Rattle.std.specs.Int.RustNames.{FitsSigned}
use Rattle.std.specs.Int.Signed.{mag}
use Rattle.std.specs.Str.Parse.{AllDigits}
use Rattle.output_file.specs.Lines.{item_line, lines_of, AreItems, HasNoFeed, HoldsLines, HasBadLine, IsNoItem}

-- an item's magnitude
pub in_range : (item : ℤ) → FitsSigned w64 item → mag item < 2 ^ 63
in_range item fits = fits.sfits

no_feed_digits : (digits : List ℕ) → AllDigits 10 digits → HasNoFeed digits
no_feed_digits [] d = tt
no_feed_digits (c ∷ cs) d = (λ e. omega (arith, digit_from_value c d.0, e), no_feed_digits cs d.1)

no_feed_decimal : (n : ℕ) → n < 2 ^ 64 → HasNoFeed (decimal n)
no_feed_decimal n small = no_feed_digits (decimal n) (decimal_is_IsNumeral n small).0.1

-- an item's digits hold no line feed
pub no_feed_item : (item : ℤ) → FitsSigned w64 item → HasNoFeed (signed_decimal item)
no_feed_item (pos n) fits = no_feed_decimal n (omega (arith, in_range (pos n) fits))
no_feed_item (negsuc n) fits = (λ e. omega (arith, e), no_feed_decimal (suc n) (omega (arith, in_range (negsuc n) fits)))

-- nor does a beginning of what holds none
pub no_feed_front : (n : ℕ) (bytes : List ℕ) → HasNoFeed bytes → HasNoFeed (take n bytes)
no_feed_front zero bytes none = tt
no_feed_front (suc n) [] none = tt
no_feed_front (suc n) (b ∷ bytes) none = (none.0, no_feed_front n bytes none.1)

-- a line feed is one
pub feed_stands : (line after : List ℕ) → HasNoFeed (line ++ 10 ∷ after) → ⊥
feed_stands [] after none = none.0 refl
feed_stands (b ∷ line) after none = feed_stands line after none.1

-- the first line of bytes ends at their first line feed
pub first_line : (x y s t : List ℕ) → HasNoFeed x → HasNoFeed y → x ++ 10 ∷ s ≡ y ++ 10 ∷ t → (x ≡ y) × (s ≡ t)
first_line [] [] s t p q e = (refl, ap (drop 1) e)
first_line [] (b ∷ y) s t p q e = absurd (q.0 cc)
first_line (a ∷ x) [] s t p q e = absurd (p.0 cc)
first_line (a ∷ x) (b ∷ y) s t p q e =
    let rest = first_line x y s t p.1 q.1 (ap (drop 1) e) in
    let first : a ≡ b = cc in
    (cc, rest.1)

-- a line, and what follows it
pub line_then : (item : ℤ) (rest : List ℕ) → item_line item ++ rest ≡ signed_decimal item ++ 10 ∷ rest
line_then item rest = append_assoc (signed_decimal item) (10 ∷ []) rest

-- lines, and what follows them
pub lines_then : (item : ℤ) (items : List ℤ) (rest : List ℕ)
    → lines_of (item ∷ items) ++ rest ≡ signed_decimal item ++ 10 ∷ (lines_of items ++ rest)
lines_then item items rest =
    append_assoc (item_line item) (lines_of items) rest ∙ line_then item (lines_of items ++ rest)

-- the lines of some items and of others are those of all
pub lines_append : (xs ys : List ℤ) → lines_of (xs ++ ys) ≡ lines_of xs ++ lines_of ys
lines_append [] ys = refl
lines_append (x ∷ xs) ys =
    ap (λ (bytes : List ℕ). item_line x ++ bytes) (lines_append xs ys)
    ∙ sym (append_assoc (item_line x) (lines_of xs) (lines_of ys))

-- items that are written alike are one
pub one_item : (a b : ℤ) → FitsSigned w64 a → FitsSigned w64 b → signed_decimal a ≡ signed_decimal b → a ≡ b
one_item a b p q e = signed_decimal_injective a b (in_range a p) (in_range b q) e

-- lines are those of one list of items
pub one_reading : (ones others : List ℤ) (s t : List ℕ) → AreItems ones → AreItems others → HasNoFeed s → HasNoFeed t
    → lines_of ones ++ s ≡ lines_of others ++ t → (ones ≡ others) × (s ≡ t)
one_reading [] [] s t p q ns nt e = (refl, e)
one_reading [] (b ∷ others) s t p q ns nt e =
    absurd (feed_stands (signed_decimal b) (lines_of others ++ t) (subst HasNoFeed (e ∙ lines_then b others t) ns))
one_reading (a ∷ ones) [] s t p q ns nt e =
    absurd (feed_stands (signed_decimal a) (lines_of ones ++ s) (subst HasNoFeed (sym e ∙ lines_then a ones s) nt))
one_reading (a ∷ ones) (b ∷ others) s t p q ns nt e =
    let cut = first_line (signed_decimal a) (signed_decimal b) (lines_of ones ++ s) (lines_of others ++ t) (no_feed_item a p.0)
    (no_feed_item b q.0) (sym (lines_then a ones s) ∙ e ∙ lines_then b others t) in
    let first : a ≡ b = one_item a b p.0 q.0 cut.0 in
    let rest = one_reading ones others s t p.1 q.1 ns nt cut.1 in
    (cc, rest.1)

-- bytes with a bad line are the lines of no items
pub no_reading : (before items : List ℤ) (line after tail : List ℕ) → AreItems before → AreItems items → HasNoFeed line
    → IsNoItem line → HasNoFeed tail → lines_of before ++ (line ++ 10 ∷ after) ≡ lines_of items ++ tail → ⊥
no_reading [] [] line after tail p q nl not_x nt e = feed_stands line after (subst HasNoFeed (sym e) nt)
no_reading [] (b ∷ others) line after tail p q nl not_x nt e =
    let cut = first_line line (signed_decimal b) after (lines_of others ++ tail) nl (no_feed_item b q.0)
    (e ∙ lines_then b others tail) in
    not_x b q.0 cut.0
no_reading (a ∷ ones) [] line after tail p q nl not_x nt e =
    feed_stands (signed_decimal a) (lines_of ones ++ (line ++ 10 ∷ after))
    (subst HasNoFeed (sym e ∙ lines_then a ones (line ++ 10 ∷ after)) nt)
no_reading (a ∷ ones) (b ∷ others) line after tail p q nl not_x nt e =
    let cut = first_line (signed_decimal a) (signed_decimal b) (lines_of ones ++ (line ++ 10 ∷ after)) (lines_of others ++ tail)
    (no_feed_item a p.0) (no_feed_item b q.0)
    (sym (lines_then a ones (line ++ 10 ∷ after)) ∙ e ∙ lines_then b others tail) in
    no_reading ones others line after tail p.1 q.1 nl not_x nt cut.1

-- bytes have one first bad line
pub one_bad_line : (ones others : List ℤ) (x y s t : List ℕ) → AreItems ones → AreItems others → HasNoFeed x → HasNoFeed y
    → IsNoItem x → IsNoItem y → lines_of ones ++ (x ++ 10 ∷ s) ≡ lines_of others ++ (y ++ 10 ∷ t) → length ones ≡ length others
one_bad_line [] [] x y s t p q nx ny not_x not_y e = refl
one_bad_line [] (b ∷ others) x y s t p q nx ny not_x not_y e =
    absurd (not_x b q.0
    (first_line x (signed_decimal b) s (lines_of others ++ (y ++ 10 ∷ t)) nx (no_feed_item b q.0)
    (e ∙ lines_then b others (y ++ 10 ∷ t))).0)
one_bad_line (a ∷ ones) [] x y s t p q nx ny not_x not_y e =
    absurd (not_y a p.0
    (first_line y (signed_decimal a) t (lines_of ones ++ (x ++ 10 ∷ s)) ny (no_feed_item a p.0)
    (sym e ∙ lines_then a ones (x ++ 10 ∷ s))).0)
one_bad_line (a ∷ ones) (b ∷ others) x y s t p q nx ny not_x not_y e =
    let cut = first_line (signed_decimal a) (signed_decimal b) (lines_of ones ++ (x ++ 10 ∷ s)) (lines_of others ++ (y ++ 10 ∷ t))
    (no_feed_item a p.0) (no_feed_item b q.0)
    (sym (lines_then a ones (x ++ 10 ∷ s)) ∙ e ∙ lines_then b others (y ++ 10 ∷ t)) in
    ap suc (one_bad_line ones others x y s t p.1 q.1 nx ny not_x not_y cut.1)

-- some of these items, the first ones
pub record BeginsSo (items : List ℤ) (bytes : List ℕ) : Type 0 where
  pub count : ℕ
  pub tail : List ℕ
  pub holds : HoldsLines bytes (take count items) tail

-- a beginning of lines
pub any_beginning : (items : List ℤ) (size : ℕ) → AreItems items → BeginsSo items (take size (lines_of items))
any_beginning [] size each = record {
  count = 0;
  tail = [];
  holds = record { each = tt; whole = take-nil size; cut_off = tt };
}
any_beginning (z ∷ zs) size each = elim (cases_lt (length (signed_decimal z)) size) as
    (λ _. BeginsSo (z ∷ zs) (take size (lines_of (z ∷ zs))))
    [ inl lt ↦ past lt (any_beginning zs (size - length (item_line z)) each.1) | inr le ↦ within le ]
  where
    within : size ≤ length (signed_decimal z) → BeginsSo (z ∷ zs) (take size (lines_of (z ∷ zs)))
    within le = record {
      count = 0;
      tail = take size (signed_decimal z);
      holds = record {
        each = tt;
        whole = ap (take size) (line_then z (lines_of zs)) ∙ take-append-le size (signed_decimal z) (10 ∷ lines_of zs) le;
        cut_off = no_feed_front size (signed_decimal z) (no_feed_item z each.0);
      };
    }

    past : length (signed_decimal z) < size
        → BeginsSo zs (take (size - length (item_line z)) (lines_of zs))
        → BeginsSo (z ∷ zs) (take size (lines_of (z ∷ zs)))
    past lt rest =
        let more : ℕ = size - length (item_line z) in
        let long = length-append (signed_decimal z) (10 ∷ []) in
        let parts : size ≡ length (item_line z) + more = omega (arith, lt, long) in
        record {
          count = suc rest.count;
          tail = rest.tail;
          holds = record {
            each = (each.0, rest.holds.each);
            whole = ap (λ (n : ℕ). take n (lines_of (z ∷ zs))) parts
                ∙ take-append-add (item_line z) (lines_of zs) more
                ∙ ap (λ (bytes : List ℕ). item_line z ++ bytes) rest.holds.whole
                ∙ sym (append_assoc (item_line z) (lines_of (take rest.count zs)) rest.tail);
            cut_off = rest.holds.cut_off;
          };
        }

pub ok_is : {A E : Type 0} (a b : A) → ◌≡◌ {A = Result A E} (Ok a) (Ok b) → a ≡ b
ok_is a b e = cc

-- what has been read of bytes, up to an offset: whole lines
pub record HasRead (bytes : List ℕ) (items : List ℤ) (read : ℕ) : Type 0 where
  pub each : AreItems items
  pub measured : read ≡ length (lines_of items)
  pub whole : bytes ≡ lines_of items ++ drop read bytes
  pub within : read ≤ length bytes

each_more : (items : List ℤ) (item : ℤ) → AreItems items → FitsSigned w64 item → AreItems (items ++ item ∷ [])
each_more [] item each fits = (fits, tt)
each_more (x ∷ items) item each fits = (each.0, each_more items item each.1 fits)

-- the line that comes next, and what is behind it
pub next_line : (bytes rest : List ℕ) (read len : ℕ) → rest ≡ drop read bytes
    → rest ≡ take len rest ++ 10 ∷ drop (len + 1) rest
    → drop read bytes ≡ take len rest ++ 10 ∷ drop (read + (len + 1)) bytes
next_line bytes rest read len is parts =
    sym is ∙ parts
    ∙ ap (λ (xs : List ℕ). take len rest ++ 10 ∷ xs)
    (ap (drop (len + 1)) is ∙ drop-drop (len + 1) read bytes)

-- one line later
pub read_more : (bytes rest line : List ℕ) (items now : List ℤ) (read next len : ℕ) (item : ℤ) → HasRead bytes items read
    → rest ≡ drop read bytes → rest ≡ take len rest ++ 10 ∷ drop (len + 1) rest → len < length rest
    → line ≡ take len rest → line ≡ signed_decimal item → FitsSigned w64 item → now ≡ items ++ item ∷ []
    → next ≡ read + (len + 1) → HasRead bytes now next
read_more bytes rest line items now read next len item was is parts some cut spelled fits pushed goes =
    let many = length-drop read bytes in
    let long = length-take-le len rest (omega (arith, some)) in
    let all : lines_of now ≡ lines_of items ++ item_line item =
    ap lines_of pushed ∙ lines_append items (item ∷ [])
    ∙ ap (λ (xs : List ℕ). lines_of items ++ xs) (append-nil (item_line item)) in
    let one : take len rest ≡ signed_decimal item = sym cut ∙ spelled in
    record {
      each = subst AreItems (sym pushed) (each_more items item was.each fits);
      measured = omega (
        arith,
        goes,
        was.measured,
        ap length all,
        length-append (lines_of items) (item_line item),
        length-append (signed_decimal item) (10 ∷ []),
        ap length one,
        long,
      );
      whole = was.whole
          ∙ ap (λ (xs : List ℕ). lines_of items ++ xs)
          (next_line bytes rest read len is parts
          ∙ ap (λ (xs : List ℕ). xs ++ 10 ∷ drop (read + (len + 1)) bytes) one
          ∙ sym (line_then item (drop (read + (len + 1)) bytes)))
          ∙ sym (append_assoc (lines_of items) (item_line item) (drop (read + (len + 1)) bytes))
          ∙ ap (λ (xs : List ℕ). xs ++ drop (read + (len + 1)) bytes) (sym all)
          ∙ ap (λ (n : ℕ). lines_of now ++ drop n bytes) (sym goes);
      within = omega (arith, goes, some, ap length is, many, was.within);
    }

-- a line that is no item's is the first such one
pub finds_bad : (bytes rest line : List ℕ) (items : List ℤ) (read len number : ℕ) → HasRead bytes items read
    → rest ≡ drop read bytes → rest ≡ take len rest ++ 10 ∷ drop (len + 1) rest
    → line ≡ take len rest → HasNoFeed (take len rest) → IsNoItem line → number ≡ length items + 1
    → HasBadLine bytes number
finds_bad bytes rest line items read len number was is parts cut one_line no_item numbered = record {
  before = items;
  line = take len rest;
  after = drop (read + (len + 1)) bytes;
  each = was.each;
  whole = was.whole ∙ ap (λ (xs : List ℕ). lines_of items ++ xs) (next_line bytes rest read len is parts);
  one_line = one_line;
  no_item = subst IsNoItem cut no_item;
  numbered = numbered;
}

-- then there are no lines of items
pub bad_is_none : (bytes : List ℕ) (number : ℕ) (items : List ℤ) (tail : List ℕ) → HasBadLine bytes number
    → HoldsLines bytes items tail → ⊥
bad_is_none bytes number items tail bad p =
    no_reading bad.before items bad.line bad.after tail bad.each p.each bad.one_line bad.no_item p.cut_off
    (sym bad.whole ∙ p.whole)

-- what a slice to the end has
pub to_the_end : (bytes : List ℕ) (read : ℕ) → take (length bytes - read) (drop read bytes) ≡ drop read bytes
to_the_end bytes read =
    ap (λ (n : ℕ). take n (drop read bytes)) (sym (length-drop read bytes)) ∙ take-length (drop read bytes)

-- what a slice of so many bytes has
pub so_many : (bytes rest : List ℕ) (read len : ℕ) → rest ≡ drop read bytes
    → take (read + len - read) (drop read bytes) ≡ take len rest
so_many bytes rest read len is =
    let same : read + len - read ≡ len = omega arith in
    ap (λ (n : ℕ). take n (drop read bytes)) same ∙ ap (take len) (sym is)
