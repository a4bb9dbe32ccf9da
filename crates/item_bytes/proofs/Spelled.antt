-- Bytes and the items that they spell.
use Rattle.std.proofs.Common.{inl, inr, ◌≡◌, ◌∙◌, ◌↔◌, ◌<◌, ◌≤◌, ℕ, zero, suc, ◌+◌, ◌*◌, ◌^◌, List, [], ◌∷◌, ◌++◌, ℤ, pos, negsuc, drop, take, length, refl, sym, ap, ap₂, append-nil, append_assoc, arith}
use Rattle.std.proofs.lemmas.Bool.{cases_lt, le-ltb, lt-ltb}
use Rattle.std.proofs.lemmas.List.{drop-drop, drop_at, length-drop, length-take, take-append-drop}
use Rattle.std.proofs.lemmas.Int.{of_z-to_z, to_z-of_z}
use Rattle.std.specs.Int.{byte_at, bytes_low_first, cast_signed, cast_unsigned, w64}
use Rattle.std.specs.Int.RustNames.{FitsSigned}
use Rattle.byteorder.specs.Endian.{little_bytes, little_number}
use Rattle.byteorder.specs.Numbers.{length-bytes_low_first, little_from-append, little_from-cons, little_number-reads_back}
use Rattle.item_bytes.specs.Bytes.{AreBytes, AreItems, bytes_of, bytes_of_item, item_of, items_in, items_of, rest_of, whole_count}
use Rattle.item_bytes.proofs.Pieces.{items_pieces, rest_pieces}

-- ---- numbers of so many bytes, the least significant one first

low_cons : (n x : ℕ) (xs : List ℕ) → little_number (suc n) (x ∷ xs) ≡ x + 256 * little_number n xs
low_cons n x xs = ap (λ (k : ℕ). x + 256 * k) (little_from-cons 0 n x xs)

-- as many bytes with the same number are the same
same_bytes : (n : ℕ) (xs ys : List ℕ) → length xs ≡ n → length ys ≡ n → AreBytes xs → AreBytes ys → little_number n xs ≡ little_number n ys → xs ≡ ys
same_bytes zero [] [] len other xs-are ys-are same = refl
same_bytes zero [] (y ∷ ys) len other xs-are ys-are same = absurd (omega (arith, other))
same_bytes zero (x ∷ xs) ys len other xs-are ys-are same = absurd (omega (arith, len))
same_bytes (suc n) [] ys len other xs-are ys-are same = absurd (omega (arith, len))
same_bytes (suc n) (x ∷ xs) [] len other xs-are ys-are same = absurd (omega (arith, other))
same_bytes (suc n) (x ∷ xs) (y ∷ ys) len other xs-are ys-are same =
    let whole : x + 256 * little_number n xs ≡ y + 256 * little_number n ys = sym (low_cons n x xs) ∙ (same ∙ low_cons n y ys) in
    let one : x < 256 = xs-are.0 in
    let two : y < 256 = ys-are.0 in
    let first : x ≡ y = omega (arith, whole, one, two) in
    let rest : little_number n xs ≡ little_number n ys = omega (arith, whole, one, two) in
    ap₂ (λ (b : ℕ) (bs : List ℕ). b ∷ bs) first
    (same_bytes n xs ys (omega (arith, len)) (omega (arith, other)) xs-are.1 ys-are.1 rest)

byte_less : (i x : ℕ) → byte_at i x < 256
byte_less zero x = omega arith
byte_less (suc i) x = omega arith

made_bytes : (i n x : ℕ) → AreBytes (bytes_low_first i n x)
made_bytes i zero x = tt
made_bytes i (suc n) x = (byte_less i x, made_bytes (suc i) n x)

number_less : (n : ℕ) (xs : List ℕ) → length xs ≡ n → AreBytes xs → little_number n xs < 256 ^ n
number_less zero xs len are = omega arith
number_less (suc n) [] len are = absurd (omega (arith, len))
number_less (suc n) (x ∷ xs) len are =
    let rest : little_number n xs < 256 ^ n = number_less n xs (omega (arith, len)) are.1 in
    let first : x < 256 = are.0 in
    rw (low_cons n x xs) (omega (arith, rest, first))

reads_back : (n x : ℕ) → x < 256 ^ n → little_number n (little_bytes n x) ≡ x
reads_back n x less = ap (little_number n) (sym (append-nil (little_bytes n x))) ∙ little_number-reads_back n x [] less

-- so many bytes are those of the number in them
spelled_back : (n : ℕ) (bytes : List ℕ) → length bytes ≡ n → AreBytes bytes → little_bytes n (little_number n bytes) ≡ bytes
spelled_back n bytes len are =
    same_bytes n (little_bytes n (little_number n bytes)) bytes (length-bytes_low_first 0 n (little_number n bytes)) len
    (made_bytes 0 n (little_number n bytes)) are (reads_back n (little_number n bytes) (number_less n bytes len are))

-- ---- one item

pub eight_bytes : (item : ℤ) → length (bytes_of_item item) ≡ 8
eight_bytes item = length-bytes_low_first 0 8 (cast_unsigned w64 item)

unsigned_less : (item : ℤ) → FitsSigned w64 item → cast_unsigned w64 item < 256 ^ 8
unsigned_less (pos n) fits = let less : n < 2 ^ 63 = fits.sfits in omega (arith, less)
unsigned_less (negsuc n) fits = let less : n < 2 ^ 63 = fits.sfits in omega (arith, less)

pub item_back : (item : ℤ) (rest : List ℕ) → FitsSigned w64 item → item_of (bytes_of_item item ++ rest) ≡ item
item_back item rest fits =
    ap (cast_signed w64) (little_number-reads_back 8 (cast_unsigned w64 item) rest (unsigned_less item fits)) ∙ to_z-of_z w64 item fits

first_bytes : (n : ℕ) (bytes : List ℕ) → AreBytes bytes → AreBytes (take n bytes)
first_bytes zero bytes are = tt
first_bytes (suc n) [] are = tt
first_bytes (suc n) (byte ∷ bytes) are = (are.0, first_bytes n bytes are.1)

later_bytes : (n : ℕ) (bytes : List ℕ) → AreBytes bytes → AreBytes (drop n bytes)
later_bytes zero bytes are = are
later_bytes (suc n) [] are = tt
later_bytes (suc n) (byte ∷ bytes) are = later_bytes n bytes are.1

eight : (bytes : List ℕ) → 8 ≤ length bytes → length (take 8 bytes) ≡ 8
eight bytes whole = omega (arith, whole, length-take 8 bytes)

first_number : (bytes : List ℕ) → 8 ≤ length bytes → little_number 8 bytes ≡ little_number 8 (take 8 bytes)
first_number bytes whole =
    ap (little_number 8) (sym (take-append-drop 8 bytes))
    ∙ little_from-append 8 (take 8 bytes) (drop 8 bytes) (omega (arith, eight bytes whole))

pub item_spelled : (bytes : List ℕ) → 8 ≤ length bytes → AreBytes bytes → bytes ≡ bytes_of_item (item_of bytes) ++ drop 8 bytes
item_spelled bytes whole are =
    let front = first_bytes 8 bytes are in
    let less = number_less 8 (take 8 bytes) (eight bytes whole) front in
    let number = first_number bytes whole in
    let same : cast_unsigned w64 (item_of bytes) ≡ little_number 8 bytes =
    of_z-to_z w64 (little_number 8 bytes) (omega (arith, less, number)) in
    sym (take-append-drop 8 bytes)
    ∙ ap (λ (first : List ℕ). first ++ drop 8 bytes) (sym (ap (little_bytes 8) (same ∙ number) ∙ spelled_back 8 (take 8 bytes) (eight bytes whole) front))

-- what bytes spell is within the signed 64 bits
signed_fits : (n : ℕ) → n < 2 ^ 64 → FitsSigned w64 (cast_signed w64 n)
signed_fits n less =
    elim (cases_lt n (2 ^ 63)) [
      | inl small ↦ rw (lt-ltb n (2 ^ 63) small) (record { sfits = small })
      | inr large ↦ rw (le-ltb n (2 ^ 63) large) (record { sfits = omega (arith, less, large) })
    ]

item_fits : (bytes : List ℕ) → 8 ≤ length bytes → AreBytes bytes → FitsSigned w64 (item_of bytes)
item_fits bytes whole are =
    let less = number_less 8 (take 8 bytes) (eight bytes whole) (first_bytes 8 bytes are) in
    let number = first_number bytes whole in
    signed_fits (little_number 8 bytes) (omega (arith, less, number))

-- ---- many

items_spelled : (count : ℕ) (bytes : List ℕ) → 8 * count ≤ length bytes → AreBytes bytes
    → (bytes ≡ bytes_of (items_in count bytes) ++ drop (8 * count) bytes) × AreItems (items_in count bytes)
items_spelled zero bytes whole are = (refl, tt)
items_spelled (suc count) bytes whole are =
    let here : 8 ≤ length bytes = omega (arith, whole) in
    let rest = items_spelled count (drop 8 bytes) (omega (arith, whole, length-drop 8 bytes)) (later_bytes 8 bytes are) in
    let one = bytes_of_item (item_of bytes) in
    let others = bytes_of (items_in count (drop 8 bytes)) in
    let far : drop (8 * count) (drop 8 bytes) ≡ drop (8 * suc count) bytes =
    drop-drop (8 * count) 8 bytes ∙ ap (λ (n : ℕ). drop n bytes) (omega arith) in (
      item_spelled bytes here are
          ∙ (ap (λ (bs : List ℕ). one ++ bs) (rest.0 ∙ ap (λ (bs : List ℕ). others ++ bs) far) ∙ sym (append_assoc one others (drop (8 * suc count) bytes))),
      (item_fits bytes here are, rest.1),
    )

pub is_spelled : (bytes : List ℕ) → AreBytes bytes → (bytes ≡ bytes_of (items_of bytes) ++ rest_of bytes) × AreItems (items_of bytes)
is_spelled bytes are = items_spelled (whole_count bytes) bytes (omega arith) are

-- the bytes of items are read as these, and nothing is left
pub read_back : (items : List ℤ) → AreItems items → (items_of (bytes_of items) ≡ items) × (rest_of (bytes_of items) ≡ [])
read_back [] each = (refl, refl)
read_back (item ∷ items) each =
    let one = bytes_of_item item in
    let rest = bytes_of items in
    let few : length one ≡ 8 = eight_bytes item in
    let whole : whole_count one ≡ 1 = omega (arith, few) in
    let again = read_back items each.1 in
    let itself : item_of one ≡ item = ap item_of (sym (append-nil one)) ∙ item_back item [] each.0 in
    let alone : items_of one ≡ item ∷ [] = ap (λ (count : ℕ). items_in count one) whole ∙ ap (λ (first : ℤ). first ∷ []) itself in
    let none : rest_of one ≡ [] = ap (λ (count : ℕ). drop (8 * count) one) whole ∙ gone one few in (
      items_pieces one rest ∙ (ap₂ (λ (xs : List ℤ) (bs : List ℕ). xs ++ items_of (bs ++ rest)) alone none ∙ ap (λ (xs : List ℤ). item ∷ xs) again.0),
      rest_pieces one rest ∙ (ap (λ (bs : List ℕ). rest_of (bs ++ rest)) none ∙ again.1),
    )
  where
    gone : (bytes : List ℕ) → length bytes ≡ 8 → drop 8 bytes ≡ []
    gone bytes len = ap (drop 8) (sym (append-nil bytes)) ∙ drop_at bytes [] 8 len

pub read_exactly : (bytes : List ℕ) (items : List ℤ) → AreBytes bytes → AreItems items
    → (bytes ≡ bytes_of items) ↔ ((items_of bytes ≡ items) × (rest_of bytes ≡ []))
read_exactly bytes items are each = (
  λ is. rw is (read_back items each),
  λ read. (is_spelled bytes are).0 ∙ (ap₂ (λ (xs : List ℤ) (bs : List ℕ). bytes_of xs ++ bs) read.0 read.1 ∙ append-nil (bytes_of items)),
)
