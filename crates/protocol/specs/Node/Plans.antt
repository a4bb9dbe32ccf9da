-- What an event makes of a node, of all events in one form: whether it can happen, the node afterwards, whether its
-- record is put for that, and what it sends; and how that comes out.
use Rattle.std.specs.Prelude.{◌≡◌, ◌⊎◌, ℕ, ◌<◌, Bool, true, false, IsTrue, if◌then◌else◌, List, [], Result, Ok, Err}
use Rattle.std.specs.declared.alloc.AllocError.{AllocError}
use Rattle.datagram.specs.declared.packet.Packet.{Packet}
use Rattle.ckpt_codec.specs.Common.{RecordView}
use Rattle.protocol.specs.Node.NodeView.{NodeView}
use Rattle.protocol.specs.Node.Modes.{crashed, with_kept}
use Rattle.protocol.specs.declared.outcome.Outcome.{Outcome}
use Rattle.protocol.specs.declared.outcome.Outcome.TheVariants as outcome
use Rattle.protocol.specs.declared.outcome.Refusal.{Refusal}
use Rattle.protocol.specs.declared.outcome.Refusal.TheVariants.{TooLarge, Spent}

abbrev pub refusal_number : Refusal → ℕ
refusal_number TooLarge = 22
refusal_number Spent = 44

-- An event that can be made: the node afterwards; whether its record, that of the node afterwards, is put first;
-- whether that may be longer than the one before, so that it may be too large; what is sent; and what is sent in its
-- place where the record is too large.
pub record Plan : Type 0 where
  pub node : NodeView
  pub puts : Bool
  pub grows : Bool
  pub packets : List Packet
  pub refused : List Packet

-- What an event comes to: it can't happen; or a number would pass the greatest, which may be seen only behind a look at
-- the device; or it is as planned.
pub data Prospect : Type 0 where
  Undue : Prospect
  Exhausted : (looks : Bool) → Prospect
  Planned : (plan : Plan) → Prospect

-- a node afterwards, and nothing else
abbrev pub becoming : NodeView → Prospect
becoming node = Planned (record { node = node; puts = false; grows = false; packets = []; refused = [] })

-- a node afterwards whose record is put first, which is longer than the one before, or isn't
abbrev pub putting : Bool → NodeView → Prospect
putting grows node = Planned (record { node = node; puts = true; grows = grows; packets = []; refused = [] })

-- nothing but packets that are sent
abbrev pub telling : List Packet → NodeView → Prospect
telling packets node = Planned (record { node = node; puts = false; grows = false; packets = packets; refused = [] })

-- what an event comes to that can happen only where it is due
abbrev pub if_due : Bool → Prospect → Prospect
if_due due prospect = if due then prospect else Undue

-- and where no number passes the greatest
abbrev pub unless_spent : Bool → Bool → Prospect → Prospect
unless_spent looks less prospect = if less then prospect else Exhausted looks

-- ---- how it comes out

-- A node whose device failed while this record was put, and which may be recovered from the round `restart` on: it is
-- down with the old record or with that one.
abbrev pub HasFailedAt : ℕ → RecordView → NodeView → NodeView → Type 0
HasFailedAt restart next old new = (new ≡ crashed restart old) ⊎ (new ≡ crashed restart (with_kept next old))

-- An event with a plan comes out in one of three ways: it is made; its record, which grows, is too large, and nothing
-- is done; or the device fails, where there is a record to put.
abbrev pub IsCarriedOut : ℕ → Plan → NodeView → Outcome → NodeView → Type 0
IsCarriedOut restart plan old outcome.NotDue new = ⊥
IsCarriedOut restart plan old outcome.Made new = new ≡ plan.node
IsCarriedOut restart plan old (outcome.Refused TooLarge) new = IsTrue plan.grows × (new ≡ old)
IsCarriedOut restart plan old (outcome.Refused Spent) new = ⊥
IsCarriedOut restart plan old outcome.Failed new = IsTrue plan.puts × HasFailedAt restart plan.node.kept old new

-- An event by which a number would pass the greatest is refused, and nothing is done; or the device fails before
-- that, where it is looked at.
abbrev pub IsHeldUp : ℕ → Bool → NodeView → Outcome → NodeView → Type 0
IsHeldUp restart looks old outcome.NotDue new = ⊥
IsHeldUp restart looks old outcome.Made new = ⊥
IsHeldUp restart looks old (outcome.Refused TooLarge) new = ⊥
IsHeldUp restart looks old (outcome.Refused Spent) new = new ≡ old
IsHeldUp restart looks old outcome.Failed new = IsTrue looks × (new ≡ crashed restart old)

-- an event comes out by its prospect: nothing happens where it can't; it is held up where a number would pass the
-- greatest; else its plan is carried out
abbrev pub IsMade : ℕ → Prospect → NodeView → Outcome → NodeView → Type 0
IsMade restart Undue old came new = (came ≡ outcome.NotDue) × (new ≡ old)
IsMade restart (Exhausted looks) old came new = IsHeldUp restart looks old came new
IsMade restart (Planned plan) old came new = IsCarriedOut restart plan old came new

-- the record that it puts, or the one that is kept
abbrev pub plan_record : Plan → RecordView → RecordView
plan_record plan kept = if plan.puts then plan.node.kept else kept

abbrev pub next_record : Prospect → RecordView → RecordView
next_record Undue kept = kept
next_record (Exhausted looks) kept = kept
next_record (Planned plan) kept = plan_record plan kept

-- a cell has room for the record that an event puts, if it puts one
abbrev pub room_for : (RecordView → Bool) → Prospect → Bool
room_for fits Undue = true
room_for fits (Exhausted looks) = true
room_for fits (Planned plan) = if plan.puts then fits plan.node.kept else true

-- What a cell did for an event, whose device had failed so often before it and after: there was room for the record
-- unless it was refused for want of it, and the device failed exactly where the node went down.
abbrev pub IsPut : Bool → ℕ → ℕ → Outcome → Type 0
IsPut room before after outcome.NotDue = after ≡ before
IsPut room before after outcome.Made = IsTrue room × (after ≡ before)
IsPut room before after (outcome.Refused TooLarge) = (room ≡ false) × (after ≡ before)
IsPut room before after (outcome.Refused Spent) = after ≡ before
IsPut room before after outcome.Failed = IsTrue room × (before < after)

-- the cell wasn't touched: nothing was to be put, it didn't fit, or memory was missing
abbrev pub LeavesCell : Result Outcome AllocError → Type 0
LeavesCell (Ok outcome.NotDue) = Unit {0}
LeavesCell (Ok outcome.Made) = ⊥
LeavesCell (Ok (outcome.Refused refusal)) = Unit {0}
LeavesCell (Ok outcome.Failed) = ⊥
LeavesCell (Err e) = Unit {0}

-- what is sent then
abbrev pub plan_packets : Plan → Outcome → List Packet
plan_packets plan outcome.NotDue = []
plan_packets plan outcome.Made = plan.packets
plan_packets plan (outcome.Refused TooLarge) = plan.refused
plan_packets plan (outcome.Refused Spent) = []
plan_packets plan outcome.Failed = []

abbrev pub packets_by : Prospect → Outcome → List Packet
packets_by Undue came = []
packets_by (Exhausted looks) came = []
packets_by (Planned plan) came = plan_packets plan came
