-- What is read doesn't depend on the pieces in which the bytes come.
use Rattle.std.proofs.Common.{◌≡◌, ◌∙◌, ◌<◌, ◌≤◌, ℕ, zero, suc, ◌+◌, ◌-◌, ◌*◌, ◌^◌, min, List, [], ◌∷◌, ◌++◌, ℤ, drop, length, refl, sym, ap, ap₂, append-nil, append_assoc, arith}
use Rattle.std.proofs.lemmas.Bool.Decides.{nat_tests}
use Rattle.std.proofs.lemmas.List.{drop-append-le, drop-drop, length-append, length-drop}
use Rattle.byteorder.specs.Numbers.{little_from-append}
use Rattle.std.specs.Int.{cast_signed, w64}
use Rattle.item_bytes.specs.Bytes.{cut_in, item_of, items_in, items_of, rest_of, whole_count}
use Rattle.item_bytes.specs.Reader.{beginning, cut_of, read_on, ReaderState}

-- an item is its eight bytes, whatever follows
pub item_first : (bytes more : List ℕ) → 8 ≤ length bytes → item_of (bytes ++ more) ≡ item_of bytes
item_first bytes more whole = ap (cast_signed w64) (little_from-append 8 bytes more whole)

-- so are many
pub items_first : (count : ℕ) (bytes more : List ℕ) → 8 * count ≤ length bytes → items_in count (bytes ++ more) ≡ items_in count bytes
items_first zero bytes more whole = refl
items_first (suc count) bytes more whole =
    ap₂ (λ (item : ℤ) (items : List ℤ). item ∷ items) (item_first bytes more (omega (arith, whole)))
    (ap (items_in count) (drop-append-le 8 bytes more (omega (arith, whole)))
    ∙ items_first count (drop 8 bytes) more (omega (arith, whole, length-drop 8 bytes)))

-- some items, and then others
pub items_then : (first second : ℕ) (bytes : List ℕ)
    → items_in (first + second) bytes ≡ items_in first bytes ++ items_in second (drop (8 * first) bytes)
items_then zero second bytes = ap (λ (count : ℕ). items_in count bytes) (omega arith)
items_then (suc first) second bytes =
    let far : 8 + 8 * first ≡ 8 * suc first = omega arith in
    let one : suc first + second ≡ suc (first + second) = omega arith in
    ap (λ (count : ℕ). items_in count bytes) one
    ∙ ap (λ (items : List ℤ). item_of bytes ∷ items) (items_then first second (drop 8 bytes)
    ∙ ap (λ (rest : List ℕ). items_in first (drop 8 bytes) ++ items_in second rest)
    (drop-drop (8 * first) 8 bytes ∙ ap (λ (n : ℕ). drop n bytes) far))

-- fewer than eight bytes are left
pub rest_few : (bytes : List ℕ) → length (rest_of bytes) < 8
rest_few bytes = omega (arith, length-drop (8 * whole_count bytes) bytes)

pub rest_length : (bytes : List ℕ) → 8 * whole_count bytes + length (rest_of bytes) ≡ length bytes
rest_length bytes = omega (arith, length-drop (8 * whole_count bytes) bytes)

-- those that are left of the first bytes stand before the others
rest_before : (bytes more : List ℕ) → drop (8 * whole_count bytes) (bytes ++ more) ≡ rest_of bytes ++ more
rest_before bytes more = drop-append-le (8 * whole_count bytes) bytes more (omega arith)

pub whole_then : (bytes more : List ℕ) → whole_count (bytes ++ more) ≡ whole_count bytes + whole_count (rest_of bytes ++ more)
whole_then bytes more = omega (arith, length-append bytes more, length-append (rest_of bytes) more, rest_length bytes)

pub items_pieces : (bytes more : List ℕ) → items_of (bytes ++ more) ≡ items_of bytes ++ items_of (rest_of bytes ++ more)
items_pieces bytes more =
    ap (λ (count : ℕ). items_in count (bytes ++ more)) (whole_then bytes more)
    ∙ (items_then (whole_count bytes) (whole_count (rest_of bytes ++ more)) (bytes ++ more)
    ∙ ap₂ (λ (items : List ℤ) (rest : List ℕ). items ++ items_in (whole_count (rest_of bytes ++ more)) rest)
    (items_first (whole_count bytes) bytes more (omega arith)) (rest_before bytes more))

pub rest_pieces : (bytes more : List ℕ) → rest_of (bytes ++ more) ≡ rest_of (rest_of bytes ++ more)
rest_pieces bytes more =
    let far : 8 * whole_count (bytes ++ more) ≡ 8 * whole_count bytes + 8 * whole_count (rest_of bytes ++ more) =
    omega (arith, whole_then bytes more) in
    ap (λ (n : ℕ). drop n (bytes ++ more)) far
    ∙ (sym (drop-drop (8 * whole_count (rest_of bytes ++ more)) (8 * whole_count bytes) (bytes ++ more))
    ∙ ap (drop (8 * whole_count (rest_of bytes ++ more))) (rest_before bytes more))

-- a reader that reads on
pub reads_then : (state : ReaderState) (bytes more : List ℕ) → read_on (read_on state bytes) more ≡ read_on state (bytes ++ more)
reads_then state bytes more =
    let all = append_assoc state.kept bytes more in
    let whole = whole_then (state.kept ++ bytes) more in
    let kept = sym (rest_pieces (state.kept ++ bytes) more) ∙ ap rest_of all in
    let count : min (min (state.count + whole_count (state.kept ++ bytes)) (2 ^ 64 - 1) + whole_count (rest_of (state.kept ++ bytes) ++ more)) (2 ^ 64 - 1)
    ≡ min (state.count + whole_count (state.kept ++ (bytes ++ more))) (2 ^ 64 - 1) =
    omega (arith, whole, ap whole_count all) in
    cc

pub cut_so : (bytes : List ℕ) → cut_of (read_on beginning bytes) ≡ cut_in bytes
cut_so bytes = grind (arith, nat_tests)

-- no byte more
pub items_none : (kept : List ℕ) → length kept < 8 → items_of (kept ++ []) ≡ []
items_none kept few =
    let none : whole_count (kept ++ []) ≡ 0 = omega (arith, few, ap length (append-nil kept)) in
    ap (λ (count : ℕ). items_in count (kept ++ [])) none

pub reads_nothing : (state : ReaderState) → length state.kept < 8 → state.count ≤ 2 ^ 64 - 1 → read_on state [] ≡ state
reads_nothing state few counted =
    let none : whole_count (state.kept ++ []) ≡ 0 = omega (arith, few, ap length (append-nil state.kept)) in
    let kept : rest_of (state.kept ++ []) ≡ state.kept =
    ap (λ (count : ℕ). drop (8 * count) (state.kept ++ [])) none ∙ append-nil state.kept in
    let count : min (state.count + whole_count (state.kept ++ [])) (2 ^ 64 - 1) ≡ state.count = omega (arith, none, counted) in
    let made : List ℕ → ℕ → ReaderState = λ bytes items. record { kept = bytes; count = items } in
    ap₂ made kept count

-- one byte more, and then others
pub items_on : (kept new rest : List ℕ) (byte : ℕ) (items some after : List ℤ) → some ≡ items_of (kept ++ byte ∷ [])
    → new ≡ rest_of (kept ++ byte ∷ []) → after ≡ items ++ some → after ++ items_of (new ++ rest) ≡ items ++ items_of (kept ++ byte ∷ rest)
items_on kept new rest byte items some after came left is =
    rw (is, came, left) (append_assoc items (items_of (kept ++ byte ∷ [])) (items_of (rest_of (kept ++ byte ∷ []) ++ rest))
    ∙ ap (λ (xs : List ℤ). items ++ xs) (sym (items_pieces (kept ++ byte ∷ []) rest) ∙ ap items_of (append_assoc kept (byte ∷ []) rest)))
