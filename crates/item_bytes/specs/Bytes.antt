-- Items as bytes: eight bytes each, in two's complement, the least significant byte first.
use Rattle.std.specs.Prelude.{ℕ, zero, suc, ◌+◌, ◌-◌, ◌*◌, ◌/◌, ◌^◌, ◌<◌, ◌==◌, min, if◌then◌else◌, List, [], ◌∷◌, ℤ, Option, Some, None, drop, length}
use Rattle.std.specs.Int.{cast_signed, cast_unsigned, w64}
use Rattle.std.specs.Int.RustNames.{FitsSigned}
use Rattle.std.specs.List.{AllByRecursion, flat_map}
use Rattle.byteorder.specs.Endian.{little_bytes, little_number}

-- the bytes of an item
abbrev pub bytes_of_item : ℤ → List ℕ
bytes_of_item item = little_bytes 8 (cast_unsigned w64 item)

-- those of items, one behind another
abbrev pub bytes_of : List ℤ → List ℕ
bytes_of items = flat_map bytes_of_item items

-- the item that the first eight of these bytes are
abbrev pub item_of : List ℕ → ℤ
item_of bytes = cast_signed w64 (little_number 8 bytes)

-- so many items, one behind another
abbrev pub items_in : ℕ → List ℕ → List ℤ
items_in zero bytes = []
items_in (suc count) bytes = item_of bytes ∷ items_in count (drop 8 bytes)

-- how many items are whole in these bytes
abbrev pub whole_count : List ℕ → ℕ
whole_count bytes = length bytes / 8

-- these items
abbrev pub items_of : List ℕ → List ℤ
items_of bytes = items_in (whole_count bytes) bytes

-- what stands behind them: the beginning of an item, or nothing
abbrev pub rest_of : List ℕ → List ℕ
rest_of bytes = drop (8 * whole_count bytes) bytes

-- The item within which the bytes end, if they do. Items are counted from 1, and those past the largest number of 64 bits have that number.
abbrev pub cut_in : List ℕ → Option ℕ
cut_in bytes = if length (rest_of bytes) == 0 then None else Some (min (whole_count bytes + 1) (2 ^ 64 - 1))

-- each is a byte
abbrev pub AreBytes : List ℕ → Type 0
AreBytes bytes = AllByRecursion (λ byte. byte < 256) bytes

-- each is a number of signed 64 bits
abbrev pub AreItems : List ℤ → Type 0
AreItems items = AllByRecursion (FitsSigned w64) items
