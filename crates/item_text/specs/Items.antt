-- How the items of a stream are read, byte by byte: numbers in decimal digits, each with one `-` before it or none, and
-- separators between them.
use Rattle.std.specs.Prelude.{ℕ, suc, ◌+◌, ◌-◌, ◌*◌, ◌^◌, ◌≤◌, min, Bool, true, false, ◌==◌, ◌||◌, nat_le}
use Rattle.std.specs.Prelude.{if◌then◌else◌}
use Rattle.std.specs.Prelude.{List, [], ◌∷◌, ◌++◌, ℤ, pos, neg_ℤ, Option, Some, None, is_some}
use Rattle.std.specs.Char.{is_ascii_digit}
use Rattle.item_text.specs.declared.fault.ItemFault.{ItemFault}
use Rattle.item_text.specs.declared.fault.ItemFault.TheVariants.{BadToken, NumberRange}
use Rattle.item_text.specs.declared.token.Token.{Token}
use Rattle.item_text.specs.declared.token.Token.TheVariants.{Between, Minus, Digits}

-- what a reader keeps between two pieces: the token at the end of what was read, the line in which the next byte
-- stands, and the fault if there was one
pub record ReaderState : Type 0 where
  pub token : Token
  pub line : ℕ
  pub fault : Option ItemFault

-- a reader, and the items that it has read
pub record Reading : Type 0 where
  pub token : Token
  pub line : ℕ
  pub items : List ℤ
  pub fault : Option ItemFault

abbrev pub reading : ReaderState → List ℤ → Reading
reading state items = record { token = state.token; line = state.line; items = items; fault = state.fault }

-- nothing was read yet
abbrev pub beginning : ReaderState
beginning = record { token = Between; line = 1; fault = None }

-- a space, a tab, a line feed or a carriage return
abbrev pub is_separator : ℕ → Bool
is_separator byte = (byte == 32) || ((byte == 9) || ((byte == 10) || (byte == 13)))

-- the largest number of digits that the signed 64 bits hold, behind a minus or none
abbrev pub largest : Bool → ℕ
largest false = 2 ^ 63 - 1
largest true = 2 ^ 63

-- digits write a number within the signed 64 bits
abbrev pub IsInRange : Token → Type 0
IsInRange Between = Unit {0}
IsInRange Minus = Unit {0}
IsInRange (Digits negative magnitude) = magnitude ≤ largest negative

-- the item that digits write behind a minus or none
abbrev pub signed : Bool → ℕ → ℤ
signed false magnitude = pos magnitude
signed true magnitude = neg_ℤ (pos magnitude)

-- the byte read can't stand there
abbrev pub refused : Reading → Reading
refused r = record (r) { fault = Some (BadToken r.line) }

-- a separator ends the number before it, and can't stand behind a minus
abbrev pub separated : Token → Reading → Reading
separated Between r = r
separated Minus r = refused r
separated (Digits negative magnitude) r =
    record (r) { token = Between; items = r.items ++ signed negative magnitude ∷ [] }

-- A line feed ends its line. Lines past the largest number of 64 bits have that number.
abbrev pub past_byte : ℕ → Reading → Reading
past_byte byte r = if byte == 10 then record (r) { line = min (r.line + 1) (2 ^ 64 - 1) } else r

-- a minus begins a number, and can't stand in one
abbrev pub with_minus : Token → Reading → Reading
with_minus Between r = record (r) { token = Minus }
with_minus Minus r = refused r
with_minus (Digits negative magnitude) r = refused r

-- a digit begins a number or goes on with it, but not past the signed 64 bits
abbrev pub with_digit : ℕ → Token → Reading → Reading
with_digit digit Between r = record (r) { token = Digits false digit }
with_digit digit Minus r = record (r) { token = Digits true digit }
with_digit digit (Digits negative magnitude) r =
    if nat_le (magnitude * 10 + digit) (largest negative)
    then record (r) { token = Digits negative (magnitude * 10 + digit) }
    else record (r) { fault = Some (NumberRange r.line) }

-- a byte where there was no fault
abbrev pub with_byte : ℕ → Reading → Reading
with_byte byte r =
    if is_separator byte then past_byte byte (separated r.token r)
    else (if byte == 45 then with_minus r.token r
    else (if is_ascii_digit byte then with_digit (byte - 48) r.token r
    else refused r))

-- one byte more: behind a fault nothing is read
abbrev pub read_byte : ℕ → Reading → Reading
read_byte byte r = if is_some r.fault then r else with_byte byte r

-- these bytes, one after another
abbrev pub read_bytes : List ℕ → Reading → Reading
read_bytes [] r = r
read_bytes (byte ∷ bytes) r = read_bytes bytes (read_byte byte r)

-- how many line feeds these bytes have
abbrev pub feed_count : List ℕ → ℕ
feed_count [] = 0
feed_count (byte ∷ bytes) = if byte == 10 then suc (feed_count bytes) else feed_count bytes

-- the same, where these items were read before
abbrev pub behind : List ℤ → Reading → Reading
behind before r = record (r) { items = before ++ r.items }

-- one where digits stand at the end: the next byte may end an item
abbrev pub pending : Token → ℕ
pending Between = 0
pending Minus = 0
pending (Digits negative magnitude) = 1
