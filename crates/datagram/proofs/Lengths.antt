-- How long the spelling of a packet is.
use Rattle.std.proofs.Common.{◌≡◌, ℕ, ◌+◌, ◌*◌, ℤ, List, [], ◌∷◌, ◌++◌, length, refl, arith}
use Rattle.std.proofs.lemmas.List.{length-append}
use Rattle.std.specs.List.{flat_map}
use Rattle.std.specs.Int.{w64, cast_unsigned}
use Rattle.byteorder.specs.Numbers.{length-bytes_high_first}
use Rattle.datagram.specs.PacketText.{number_text, item_text, need_text, needs_text, body_text, reason_number}
use Rattle.datagram.specs.declared.packet.Need.{Need}
use Rattle.datagram.specs.declared.packet.Body.{Body}
use Rattle.datagram.specs.declared.packet.Body.TheVariants.{Data, Ack, Kept, Ask, Took, Covered, Refused, Query, Commit}
use Rattle.datagram.specs.declared.packet.Body.TheVariants.{Ended, Settled, Undone}

number_len : (bytes n : ℕ) → length (number_text bytes n) ≡ bytes
unfolding number_text
number_len bytes n = length-bytes_high_first bytes n

item_len : (item : ℤ) → length (item_text item) ≡ 8
unfolding item_text
item_len item = length-bytes_high_first 8 (cast_unsigned w64 item)

-- two parts, and three
two_len : (a b : List ℕ) (m n : ℕ) → length a ≡ m → length b ≡ n → length (a ++ b) ≡ m + n
two_len a b m n is was = omega (arith, length-append a b, is, was)

three_len : (a b c : List ℕ) (m n k : ℕ) → length a ≡ m → length b ≡ n → length c ≡ k
    → length (a ++ (b ++ c)) ≡ m + n + k
three_len a b c m n k is was are = omega (arith, length-append a (b ++ c), length-append b c, is, was, are)

need_len : (need : Need) → length (need_text need) ≡ 10
need_len need =
    two_len (number_text 2 need.channel) (number_text 8 need.count) 2 8 (number_len 2 need.channel)
    (number_len 8 need.count)

all_needs_len : (needs : List Need) → length (flat_map need_text needs) ≡ 10 * length needs
all_needs_len [] = refl
all_needs_len (need ∷ needs) =
    omega (arith, length-append (need_text need) (flat_map need_text needs), need_len need, all_needs_len needs)

needs_len : (needs : List Need) → length (needs_text needs) ≡ 2 + 10 * length needs
needs_len needs =
    two_len (number_text 2 (length needs)) (flat_map need_text needs) 2 (10 * length needs)
    (number_len 2 (length needs)) (all_needs_len needs)

-- by what is said
abbrev pub len_of : Body → ℕ
len_of (Data channel position item) = 18
len_of (Ack channel epoch next) = 18
len_of (Kept channel count) = 10
len_of (Ask number channel count) = 18
len_of (Took number channel count needs) = 20 + 10 * length needs
len_of (Covered number channel count) = 18
len_of (Refused number channel reason) = 11
len_of (Query number) = 8
len_of (Commit number) = 8
len_of (Ended number) = 8
len_of (Settled number) = 8
len_of (Undone channel epoch sent) = 18

counts_len : (channel first second : ℕ)
    → length (number_text 2 channel ++ (number_text 8 first ++ number_text 8 second)) ≡ 18
counts_len channel first second =
    three_len (number_text 2 channel) (number_text 8 first) (number_text 8 second) 2 8 8 (number_len 2 channel)
    (number_len 8 first) (number_len 8 second)

ask_len : (number channel count : ℕ)
    → length (number_text 8 number ++ (number_text 2 channel ++ number_text 8 count)) ≡ 18
ask_len number channel count =
    three_len (number_text 8 number) (number_text 2 channel) (number_text 8 count) 8 2 8 (number_len 8 number)
    (number_len 2 channel) (number_len 8 count)

pub body_len : (body : Body) → length (body_text body) ≡ len_of body
body_len (Data channel position item) =
    three_len (number_text 2 channel) (number_text 8 position) (item_text item) 2 8 8 (number_len 2 channel)
    (number_len 8 position) (item_len item)
body_len (Ack channel epoch next) = counts_len channel epoch next
body_len (Kept channel count) =
    two_len (number_text 2 channel) (number_text 8 count) 2 8 (number_len 2 channel) (number_len 8 count)
body_len (Ask number channel count) = ask_len number channel count
body_len (Took number channel count needs) =
    omega (
      arith,
      length-append (number_text 8 number) (number_text 2 channel ++ (number_text 8 count ++ needs_text needs)),
      number_len 8 number,
      three_len (number_text 2 channel) (number_text 8 count) (needs_text needs) 2 8 (2 + 10 * length needs)
          (number_len 2 channel) (number_len 8 count) (needs_len needs),
    )
body_len (Covered number channel count) = ask_len number channel count
body_len (Refused number channel reason) =
    three_len (number_text 8 number) (number_text 2 channel) (reason_number reason ∷ []) 8 2 1 (number_len 8 number)
    (number_len 2 channel) refl
body_len (Query number) = number_len 8 number
body_len (Commit number) = number_len 8 number
body_len (Ended number) = number_len 8 number
body_len (Settled number) = number_len 8 number
body_len (Undone channel epoch sent) = counts_len channel epoch sent
