-- Events without pointers.
use Rattle.std.specs.Prelude.{ℕ, Option, Some, None}
use Rattle.ckpt_codec.specs.Common.{Code}
use Rattle.protocol.specs.World.DoneView.{DoneView}
use Rattle.protocol.specs.declared.event.Deed.{Deed}
use Rattle.protocol.specs.declared.event.NetworkAct.{NetworkAct}
use Rattle.protocol.specs.declared.event.NetworkAct.TheVariants.{ArmPacket}
use Rattle.protocol.specs.declared.event.PlainEvent.{PlainEvent}
use Rattle.protocol.specs.declared.event.PlainEvent.TheVariants as plain
use Rattle.wire.specs.declared.rule.Rule.{Rule}

-- An event: a deed of a node; a turn that comes back; an item that leaves a node, if its outlet takes it; or an act of
-- the network on the packet at a place of those in flight to a node (one that is armed looks at no place).
pub data EventView : Type 0 where
  ByNode : (node : ℕ) → (deed : Deed) → EventView
  Install : (done : DoneView) → EventView
  Release : (node : ℕ) → EventView
  ByNetwork : (node : ℕ) → (place : ℕ) → (act : NetworkAct) → EventView

-- one that carries no turn
abbrev pub plain_view : PlainEvent → EventView
plain_view (plain.ByNode node deed) = ByNode node deed
plain_view (plain.Release node) = Release node
plain_view (plain.ByNetwork node place act) = ByNetwork node place act

-- by which a rule is armed
abbrev pub armed_by : Rule → PlainEvent
armed_by rule = plain.ByNetwork rule.to 0 (ArmPacket rule.from rule.nth rule.change)

-- the node of a process
abbrev pub node_in : Option Code → ℕ
node_in None = 0
node_in (Some code) = code.node

-- the node of an event
abbrev pub event_node : EventView → ℕ
event_node (ByNode k deed) = k
event_node (Install done) = node_in done.job.code
event_node (Release k) = k
event_node (ByNetwork k place act) = k
