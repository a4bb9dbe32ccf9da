-- How a process stands in a world: whether it goes on while no channel gets more room, and else what it waits for.
use Rattle.std.specs.Prelude.{◌==◌, ℕ, nat_lt, Bool, false, ◌||◌, not, if◌then◌else◌, ℤ, List, length, find, Option}
use Rattle.std.specs.Prelude.{Some, None, slice_get}
use Rattle.ckpt_codec.specs.Common.{Code, Network, ImageView, received_of, sent_of}
use Rattle.record.specs.Common.{base_of}
use Rattle.protocol.specs.Node.Addresses.{consumer_node}
use Rattle.protocol.specs.Node.NodeView.{RunningNode, running_of}
use Rattle.protocol.specs.Node.Stances.{own_stance}
use Rattle.protocol.specs.World.Invariant.{outputs_of}
use Rattle.protocol.specs.World.OutputView.{OutputView}
use Rattle.protocol.specs.World.StationView.{StationView}
use Rattle.protocol.specs.World.Still.{has_come_from}
use Rattle.protocol.specs.declared.links.Inbox.{Inbox}
use Rattle.protocol.specs.declared.links.Outbox.{Outbox}
use Rattle.protocol.specs.declared.stance.Stance.{Stance}
use Rattle.protocol.specs.declared.stance.Stance.TheVariants.{GoesOn, Ended, Waits, Held, Full}

-- ---- what is under way on a channel

-- more comes to an inbox, if there is one
abbrev pub comes_to : Network → List StationView → Option Inbox → Bool
comes_to net stations None = false
comes_to net stations (Some inbox) = not (has_come_from net stations inbox)

-- more of a channel from another node comes to these inboxes
abbrev pub is_coming : Network → List StationView → List Inbox → ℕ → Bool
is_coming net stations inboxes channel =
    comes_to net stations (find (λ (inbox : Inbox). inbox.channel == channel) inboxes)

-- how many items of a channel a node has got by now: none, where it doesn't run
abbrev pub got_by : ℕ → Option RunningNode → ℕ
got_by channel None = 0
got_by channel (Some node) = received_of node.current channel

abbrev pub got_at : ℕ → Option StationView → ℕ
got_at channel None = 0
got_at channel (Some station) = got_by channel (running_of station.node)

-- The log of a channel to another node, if it is one, has items that were got there by now. It lets go of them once that
-- node keeps for good that it got them.
abbrev pub has_what_was_got : Network → List StationView → ImageView → Option Outbox → Bool
has_what_was_got net stations image None = false
has_what_was_got net stations image (Some outbox) =
    nat_lt (base_of image outbox.channel)
    (got_at outbox.channel (slice_get stations (consumer_node net outbox.channel)))

-- an outlet, if there is one, hasn't got all that was put
abbrev pub lacks_items : ImageView → Option OutputView → Bool
lacks_items image None = false
lacks_items image (Some output) = nat_lt (length output.taken) (sent_of image output.channel)

-- The log of a channel lets go of items by and by, though no more are got. (One that stays on its node lets go of an item
-- as it is got.)
abbrev pub is_leaving : Network → List StationView → RunningNode → List OutputView → ℕ → Bool
is_leaving net stations node outputs channel =
    has_what_was_got net stations node.current (find (λ (outbox : Outbox). outbox.channel == channel) node.outboxes) ||
    lacks_items node.current (find (λ (output : OutputView). output.channel == channel) outputs)

-- ---- a process

-- one that waits goes on where what it waits for is under way
abbrev pub beside_others : Network → List StationView → RunningNode → List OutputView → Stance → Stance
beside_others net stations node outputs GoesOn = GoesOn
beside_others net stations node outputs Ended = Ended
beside_others net stations node outputs (Waits channel) =
    if is_coming net stations node.inboxes channel then GoesOn else Waits channel
beside_others net stations node outputs (Held channel) =
    if is_leaving net stations node outputs channel then GoesOn else Held channel
beside_others net stations node outputs (Full channel) =
    if is_leaving net stations node outputs channel then GoesOn else Full channel

module _ (net : Network) (inputs : List (List ℤ)) (rooms : List ℕ) (stations : List StationView) where
  -- the process of this number at a node, which goes on where that doesn't run, since it comes back
  abbrev pub stance_on : ℕ → List OutputView → Option RunningNode → Stance
  stance_on process outputs None = GoesOn
  stance_on process outputs (Some node) =
      beside_others net stations node outputs (own_stance net inputs rooms process node)

  abbrev pub stance_at : ℕ → Option StationView → Stance
  stance_at process None = Ended
  stance_at process (Some station) = stance_on process (outputs_of station.outlets) (running_of station.node)

  abbrev pub stance_with : ℕ → Option Code → Stance
  stance_with process None = Ended
  stance_with process (Some code) = stance_at process (slice_get stations code.node)

  -- how the process of this number stands
  abbrev pub stance_of : ℕ → Stance
  stance_of process = stance_with process (slice_get net.codes process)
