-- A reader of the lines of an inputs text: it goes from the left, and ends at the first fault.
use Rattle.std.specs.Prelude.{◌≡◌, ℕ, zero, suc, ◌+◌, ◌^◌, Bool, true, false, ◌==◌, if◌then◌else◌, List, [], ◌∷◌}
use Rattle.std.specs.Prelude.{length, take, drop, slice_index, Option, Some, None, Result, Ok, Err, ℤ, pos, neg_ℤ}
use Rattle.std.specs.Prelude.{nat_lt, nat_le, ◌||◌}
use Rattle.std.specs.Char.{is_ascii_digit}
use Rattle.net_text.specs.Numbers.{numeral_value}
use Rattle.net_text.specs.Spellings.{starts_word, continues_word}
use Rattle.net_text.specs.Trees.{InputTree, input_tree}
use Rattle.net_text.specs.InputLines.{is_space, is_comment}
use Rattle.net_text.specs.declared.raw_inputs.InputLine.{InputLine}
use Rattle.net_text.specs.declared.fault.TextFault.{TextFault}
use Rattle.net_text.specs.declared.fault.TextFault.TheVariants.{NoMemory, BadToken, Unexpected, NumberRange, TooLong}
use Rattle.net_text.specs.declared.limits.TheConstants.{MAX_NAME_BYTES}
use Rattle.net_text.specs.Results.{◌>>=◌}

-- A call that failed by this fault did as its reader does, which fails by the same one; for want of memory a reader
-- never fails.
abbrev pub Fails : {Y : Type 0} → TextFault → Result Y TextFault → Type 0
Fails NoMemory read = Unit {0}
Fails (BadToken line) read = read ≡ Err (BadToken line)
Fails (Unexpected line) read = read ≡ Err (Unexpected line)
Fails (NumberRange line) read = read ≡ Err (NumberRange line)
Fails (TooLong line) read = read ≡ Err (TooLong line)

abbrev pub Gives : {X Y : Type 0} → (X → Y) → Result X TextFault → Result Y TextFault → Type 0
Gives view (Ok x) read = read ≡ Ok (view x)
Gives view (Err e) read = Fails e read

-- how many bytes at the front pass a test
abbrev pub run : (ℕ → Bool) → List ℕ → ℕ
run test [] = 0
run test (b ∷ bs) = if test b then suc (run test bs) else 0

-- digits, and the number that they write with a sign before them or none
abbrev pub signed : Bool → ℕ → ℕ → Result ℤ TextFault
signed true n line = if nat_le n (2 ^ 63) then Ok (neg_ℤ (pos n)) else Err (NumberRange line)
signed false n line = if nat_lt n (2 ^ 63) then Ok (pos n) else Err (NumberRange line)

-- one where the bytes begin with a minus
abbrev pub sign_len : List ℕ → ℕ
sign_len bytes = if slice_index bytes 0 == 45 then 1 else 0

-- an item of so many digits after a sign of so many bytes, and what follows it
abbrev pub item_in : ℕ → Bool → ℕ → ℕ → List ℕ → Result (ℤ × List ℕ) TextFault
item_in line minus sign digits bytes =
    if digits == 0 then Err (BadToken line)
    else (signed minus (numeral_value (take digits (drop sign bytes))) line >>= λ v. Ok (v, drop (sign + digits) bytes))

unfoldable pub item_at : ℕ → List ℕ → Result (ℤ × List ℕ) TextFault
item_at line bytes =
    item_in line (slice_index bytes 0 == 45) (sign_len bytes) (run is_ascii_digit (drop (sign_len bytes) bytes)) bytes

-- so many items at the most
abbrev pub items_from : ℕ → ℕ → List ℕ → Result (List ℤ) TextFault
items_from line zero bytes = Ok []
items_from line (suc n) bytes =
    if run is_space bytes == length bytes then Ok []
    else (if run is_space bytes == 0 then Err (BadToken line)
    else (item_at line (drop (run is_space bytes) bytes) >>= λ first. items_from line n first.1 >>= λ others. Ok
    (first.0 ∷ others)))

unfoldable pub items_at : ℕ → List ℕ → Result (List ℤ) TextFault
items_at line bytes = items_from line (suc (length bytes)) bytes

-- the items after a name of this length
unfoldable pub after_name : ℕ → ℕ → List ℕ → Result InputTree TextFault
after_name line n bytes =
    if nat_lt MAX_NAME_BYTES n then Err (TooLong line)
    else (if n == length bytes then Err (Unexpected line)
    else (if slice_index bytes n == 58
    then (items_at line (drop (suc n) bytes) >>= λ items. Ok
    (record { name = record { text = take n bytes; line = line }; items = items }))
    else Err (BadToken line)))

unfoldable pub entry_at : ℕ → List ℕ → Result InputTree TextFault
entry_at line bytes =
    if starts_word (slice_index bytes 0) then after_name line (run continues_word bytes) bytes else Err (BadToken line)

abbrev pub entry_tree : Option InputLine → Option InputTree
entry_tree None = None
entry_tree (Some l) = Some (input_tree l)

unfoldable pub line_at : ℕ → List ℕ → Result (Option InputTree) TextFault
line_at line bytes =
    if (run is_space bytes == length bytes) || is_comment bytes then Ok None else
    (entry_at line bytes >>= λ e. Ok (Some e))

-- before the others, if there is one
abbrev pub with_entry : Option InputTree → List InputTree → List InputTree
with_entry None others = others
with_entry (Some e) others = e ∷ others

unfoldable pub lines_at : ℕ → List (List ℕ) → Result (List InputTree) TextFault
lines_at number [] = Ok []
lines_at number (line ∷ lines) =
    line_at number line >>= λ e. lines_at (suc number) lines >>= λ others. Ok (with_entry e others)
