-- Reading from the front: what is read and what is left, or nothing.
use Rattle.std.specs.Prelude.{◌≡◌, ℕ, zero, suc, ◌+◌, ◌≤◌, ◌==◌, ◌&&◌, Bool, true, nat_le, nat_lt, not, if◌then◌else◌}
use Rattle.std.specs.Prelude.{ℤ, List, [], ◌∷◌, ◌++◌, length, drop, Option, Some, None, option_map, Result, Ok, Err}
use Rattle.std.specs.Prelude.{FitsSigned}
use Rattle.std.specs.Int.{w64, cast_signed}
use Rattle.byteorder.specs.Endian.{big_number}
use Rattle.datagram.specs.declared.packet.TheConstants.{LAST_NODE, LAST_CHANNEL, MOST_NEEDS}
use Rattle.kahn_net.specs.declared.limits.TheConstants.{MAX_COUNT}
use Rattle.datagram.specs.declared.fault.PacketFault.{PacketFault}
use Rattle.datagram.specs.declared.fault.PacketFault.TheVariants.{NoMemory, BadPacket}
use Rattle.datagram.specs.declared.packet.Need.{Need}
use Rattle.datagram.specs.declared.packet.Reason.{Reason}
use Rattle.datagram.specs.declared.packet.Reason.TheVariants.{Busy, Behind, Recovering, TooLarge}
use Rattle.datagram.specs.declared.packet.Body.{Body}
use Rattle.datagram.specs.declared.packet.Body.TheVariants.{Data, Ack, Kept, Ask, Took, Covered, Refused, Query, Commit}
use Rattle.datagram.specs.declared.packet.Body.TheVariants.{Ended, Settled, Undone}
use Rattle.datagram.specs.declared.packet.Packet.{Packet}
use Rattle.datagram.specs.PacketText.{IsChannel, IsCount, IsPositive, number_text, item_text, reason_number}

infixl 10 ◌>>=◌
abbrev pub ◌>>=◌ : {A B : Type 0} → Option A → (A → Option B) → Option B
(Some x) >>= f = f x
None >>= f = None

-- what was read, with what is left behind it
abbrev pub Found : Type 0 → Type 0
Found A = Option (A × List ℕ)

-- a part of a packet: its spelling, which values it has, and how it is read
pub record Field (A : Type 0) : Type 1 where
  pub text : A → List ℕ
  pub Fits : A → Type 0
  pub read : List ℕ → Found A

-- the number in so many bytes
unfoldable pub number_at : ℕ → List ℕ → Found ℕ
number_at bytes text = if nat_lt (length text) bytes then None else Some (big_number bytes text, drop bytes text)

unfoldable pub item_at : List ℕ → Found ℤ
item_at text = if nat_lt (length text) 8 then None else Some (cast_signed w64 (big_number 8 text), drop 8 text)

abbrev pub item : Field ℤ
item = record { text = item_text; Fits = FitsSigned w64; read = item_at }

-- what passes a test
abbrev pub if_passes : {A : Type 0} → (A → Bool) → Found A → Found A
if_passes test None = None
if_passes test (Some x) = if test x.0 then Some x else None

-- a number in so many bytes that passes a test
abbrev pub limited : (ℕ → Type 0) → (ℕ → Bool) → ℕ → Field ℕ
limited Fits test bytes = record {
  text = number_text bytes;
  Fits = Fits;
  read = λ text. if_passes test (number_at bytes text);
}

abbrev pub channel : Field ℕ
channel = limited IsChannel (λ n. nat_le n LAST_CHANNEL) 2

abbrev pub count : Field ℕ
count = limited IsCount (λ n. nat_le n MAX_COUNT) 8

abbrev pub positive : Field ℕ
positive = limited IsPositive (λ n. nat_le 1 n && nat_le n MAX_COUNT) 8

-- how many needs there are
abbrev pub needs_count : Field ℕ
needs_count = limited (λ n. n ≤ MOST_NEEDS) (λ n. nat_le n MOST_NEEDS) 2

-- the reason of a number
abbrev pub reason_of : ℕ → Option Reason
reason_of n =
    if n == 1 then Some Busy else if n == 2 then Some Behind else if n == 3 then Some Recovering
    else if n == 4 then Some TooLarge else None

abbrev pub reason_at : List ℕ → Found Reason
reason_at [] = None
reason_at (n ∷ rest) = option_map (λ r. (r, rest)) (reason_of n)

abbrev pub reason : Field Reason
reason = record { text = λ r. reason_number r ∷ []; Fits = λ r. Unit {0}; read = reason_at }

-- one part behind another
abbrev pub both : {A B : Type 0} → Field A → Field B → Field (A × B)
both f g = record {
  text = λ x. f.text x.0 ++ g.text x.1;
  Fits = λ x. f.Fits x.0 × g.Fits x.1;
  read = λ text. f.read text >>= λ a. g.read a.1 >>= λ b. Some ((a.0, b.0), b.1);
}

abbrev pub need_at : List ℕ → Found Need
need_at text = channel.read text >>= λ a. positive.read a.1 >>= λ b. Some (record { channel = a.0; count = b.0 }, b.1)

-- whether the channels ascend from this one on, each above the one before it
abbrev pub are_ascending : ℕ → List Need → Bool
are_ascending least [] = true
are_ascending least (need ∷ needs) = nat_le least need.channel && are_ascending (need.channel + 1) needs

-- so many needs
unfoldable pub needs_at : ℕ → List ℕ → Found (List Need)
needs_at zero text = Some ([], text)
needs_at (suc n) text = need_at text >>= λ first. needs_at n first.1 >>= λ others. Some (first.0 ∷ others.0, others.1)

-- their count, and so many of them, ascending
unfoldable pub need_list_at : List ℕ → Found (List Need)
need_list_at text = needs_count.read text >>= λ n. if_passes (are_ascending 0) (needs_at n.0 n.1)

-- what a kind says
abbrev pub data_body : Field (ℕ × (ℕ × ℤ))
data_body = both channel (both count item)

-- a channel and two counts
abbrev pub counts_body : Field (ℕ × (ℕ × ℕ))
counts_body = both channel (both count count)

abbrev pub kept_body : Field (ℕ × ℕ)
kept_body = both channel count

-- an instance, a channel and how many of its items
abbrev pub ask_body : Field (ℕ × (ℕ × ℕ))
ask_body = both positive (both channel positive)

abbrev pub refused_body : Field (ℕ × (ℕ × Reason))
refused_body = both positive (both channel reason)

-- what a kind's body is read as
abbrev pub read_as : {A : Type 0} → (A → Body) → Found A → Found Body
read_as make read = option_map (λ x. (make x.0, x.1)) read

abbrev pub took_at : List ℕ → Found Body
took_at text = ask_body.read text >>= λ a. need_list_at a.1 >>= λ b.
    Some (Took a.0.0 a.0.1.0 a.0.1.1 b.0, b.1)

-- the kinds without a list
abbrev pub plain_body_at : ℕ → List ℕ → Found Body
plain_body_at kind text =
    if kind == 1 then read_as (λ x. Data x.0 x.1.0 x.1.1) (data_body.read text)
    else if kind == 2 then read_as (λ x. Ack x.0 x.1.0 x.1.1) (counts_body.read text)
    else if kind == 3 then read_as (λ x. Kept x.0 x.1) (kept_body.read text)
    else if kind == 4 then read_as (λ x. Ask x.0 x.1.0 x.1.1) (ask_body.read text)
    else if kind == 6 then read_as (λ x. Covered x.0 x.1.0 x.1.1) (ask_body.read text)
    else if kind == 7 then read_as (λ x. Refused x.0 x.1.0 x.1.1) (refused_body.read text)
    else if kind == 8 then read_as Query (positive.read text)
    else if kind == 9 then read_as Commit (positive.read text)
    else if kind == 10 then read_as Ended (positive.read text)
    else if kind == 11 then read_as Settled (positive.read text)
    else if kind == 12 then read_as (λ x. Undone x.0 x.1.0 x.1.1) (counts_body.read text)
    else None

unfoldable pub body_at : ℕ → List ℕ → Found Body
body_at kind text = if kind == 5 then took_at text else plain_body_at kind text

-- whether these are two nodes
abbrev pub are_nodes : ℕ → ℕ → Bool
are_nodes from to = nat_le from LAST_NODE && (nat_le to LAST_NODE && not (from == to))

unfoldable pub packet_at : List ℕ → Found Packet
packet_at [] = None
packet_at (kind ∷ []) = None
packet_at (kind ∷ from ∷ []) = None
packet_at (kind ∷ from ∷ to ∷ text) =
    if are_nodes from to then option_map (λ x. (record { from = from; to = to; body = x.0 }, x.1)) (body_at kind text)
    else None

-- the packet that takes all the bytes
unfoldable pub whole_at : List ℕ → Option Packet
whole_at text = packet_at text >>= λ x. if length x.1 == 0 then Some x.0 else None

-- what a function returned, seen by view, is what is read, unless memory ran out
abbrev pub Fails : {Y : Type 0} → PacketFault → Option Y → Type 0
Fails NoMemory read = Unit {0}
Fails BadPacket read = read ≡ None

abbrev pub Reads : {X Y : Type 0} → (X → Y) → Result X PacketFault → Option Y → Type 0
Reads view (Ok x) read = read ≡ Some (view x)
Reads view (Err fault) read = Fails fault read

-- this packet was read, unless memory ran out
abbrev pub IsReadUnlessMemory : Packet → Result Packet PacketFault → Type 0
IsReadUnlessMemory packet (Ok found) = found ≡ packet
IsReadUnlessMemory packet (Err fault) = fault ≡ NoMemory
