-- What a packet does to the node that it is for, where checkpoints are coordinated.
use Rattle.std.specs.Prelude.{ℕ, not, Option, Some, None}
use Rattle.datagram.specs.declared.packet.Body.{Body}
use Rattle.datagram.specs.declared.packet.Body.TheVariants.{Data, Ack, Kept, Ask, Took, Covered, Refused, Query, Commit}
use Rattle.datagram.specs.declared.packet.Body.TheVariants.{Ended, Settled, Undone}
use Rattle.datagram.specs.declared.packet.Packet.{Packet}
use Rattle.ckpt_codec.specs.Common.{Network}
use Rattle.protocol.specs.Node.Answering.{ask_prospect}
use Rattle.protocol.specs.Node.Collecting.{hearing_covered, took_prospect, refused_prospect}
use Rattle.protocol.specs.Node.Verdicts.{commit_prospect, ended_prospect, query_prospect, settled_prospect}
use Rattle.protocol.specs.Node.Delivering.{hearing}
use Rattle.protocol.specs.Node.GoingBack.{undone_prospect}
use Rattle.protocol.specs.Node.Modes.{is_down}
use Rattle.protocol.specs.Node.NodeView.{NodeView, RunningView, on_running}
use Rattle.protocol.specs.Node.Plans.{Prospect, becoming, if_due}
use Rattle.protocol.specs.Node.Trimming.{cut_at}

-- what a node has in memory changes alone, if it runs
abbrev pub remembering : (RunningView → RunningView) → NodeView → Prospect
remembering change node = becoming (on_running change node)

-- What becomes of a node that is up and hears this from a node. Items and acknowledgements change its ends of
-- channels, and what the receiver of a channel keeps for good cuts the log; what its sender restored may set the node
-- back; all else is about checkpoints.
abbrev pub hear_prospect : Network → ℕ → ℕ → Body → NodeView → Prospect
hear_prospect net home from (Data channel position item) node = remembering (hearing (Data channel position item)) node
hear_prospect net home from (Ack channel epoch next) node = remembering (hearing (Ack channel epoch next)) node
hear_prospect net home from (Kept channel count) node = remembering (cut_at channel count) node
hear_prospect net home from (Ask n c m) node = ask_prospect net home from n c m node
hear_prospect net home from (Took n c m needs) node = took_prospect net home from n c needs node
hear_prospect net home from (Covered n c m) node = remembering (hearing_covered n c) node
hear_prospect net home from (Refused n c reason) node = refused_prospect home n node
hear_prospect net home from (Query n) node = query_prospect home from n node
hear_prospect net home from (Commit n) node = commit_prospect net home from n node
hear_prospect net home from (Ended n) node = ended_prospect net home from n node
hear_prospect net home from (Settled n) node = settled_prospect from n node
hear_prospect net home from (Undone channel epoch sent) node = undone_prospect channel epoch sent node

-- bytes that spell this packet for it, or none, come to a node that is up
abbrev pub told_prospect : Network → ℕ → Option Packet → NodeView → Prospect
told_prospect net home None node = becoming node
told_prospect net home (Some packet) node = hear_prospect net home packet.from packet.body node

-- what a `Deliver` comes to: a node that is up hears the packet, if there is one; a node that is down takes none
abbrev pub deliver_prospect : Network → ℕ → Option Packet → NodeView → Prospect
deliver_prospect net home packet node = if_due (not (is_down node.mode)) (told_prospect net home packet node)
