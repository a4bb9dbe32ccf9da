-- A node before its first event.
use Rattle.std.specs.Prelude.{ℕ, suc, Bool, true, false, ◌==◌, if◌then◌else◌, List, [], ◌∷◌, map, replicate, Some, None}
use Rattle.ckpt_codec.specs.Common.{Code, Network, Channel, SavedProcessView, ImageView, RecordView, SavedEnd}
use Rattle.ckpt_codec.specs.Common.{Receives, Sends}
use Rattle.kahn_net.specs.Processes.{NotBegun}
use Rattle.protocol.specs.Node.Layout.{port_on, channel_on, incoming_on, outgoing_on}
use Rattle.protocol.specs.Node.NodeView.{NodeView, Runs, RunningNode}
use Rattle.protocol.specs.declared.limits.TheConstants.{WINDOW}
use Rattle.protocol.specs.declared.links.Inbox.{Inbox}
use Rattle.protocol.specs.declared.links.Outbox.{Outbox}
use Rattle.record.specs.declared.image.End.{End}
use Rattle.record.specs.declared.image.End.TheVariants.{Both}

-- none of the node's processes has begun
abbrev pub opening_processes : ℕ → ℕ → List Code → List SavedProcessView
opening_processes home number [] = []
opening_processes home number (code ∷ codes) =
    if code.node == home then record { number = number; standing = NotBegun code.vars }
    ∷ opening_processes home (suc number) codes else opening_processes home (suc number) codes

-- nothing was received or put: an end at which the node puts, and gets, or not
abbrev pub opening_end : Bool → Bool → End
opening_end true true = Both 0 (record { base = 0; items = [] })
opening_end true false = Sends (record { base = 0; items = [] })
opening_end false gets = Receives 0

abbrev pub opening_ends : Network → ℕ → ℕ → List Channel → List SavedEnd
opening_ends net home number [] = []
opening_ends net home number (channel ∷ channels) =
    if channel_on net home (Some channel)
    then record
    { channel = number; end = opening_end (port_on net home channel.producer) (port_on net home channel.consumer) }
    ∷ opening_ends net home (suc number) channels
    else opening_ends net home (suc number) channels

-- the image of the node of this number, which has its own processes and ends
abbrev pub opening_image : Network → ℕ → ImageView
opening_image net home =
    record { processes = opening_processes home 0 net.codes; ends = opening_ends net home 0 net.channels }

-- the record with which a node begins, the one of this number of so many nodes: no process has begun, counts are 0,
-- and logs are empty
abbrev pub opening_record : Network → ℕ → ℕ → RecordView
opening_record net nodes number =
    record {
      node = number;
      epoch = 0;
      highest = replicate nodes 0;
      decisions = [];
      permanent =
          opening_image net number;
      tentative = None;
    }

-- an inbox to which nothing has come, and an outbox of which nothing is under way
abbrev pub new_inbox : ℕ → Inbox
new_inbox channel =
    record {
      channel = channel;
      window = record { epoch = 0; next = 0; held = replicate WINDOW None };
      log = record { base = 0; items = [] };
      undone = 0;
    }

abbrev pub new_outbox : ℕ → Outbox
new_outbox channel =
    record { channel = channel; window = record { size = WINDOW; epoch = 0; acknowledged = 0 }; restored = 0 }

-- those of a node, in order of their channels
abbrev pub opening_inboxes : Network → ℕ → List Inbox
opening_inboxes net home = map new_inbox (incoming_on net home)

abbrev pub opening_outboxes : Network → ℕ → List Outbox
opening_outboxes net home = map new_outbox (outgoing_on net home)

-- a node of this number that runs from its record's permanent image, with empty inboxes and nothing acknowledged, and
-- never went down
abbrev pub running_from : Network → ℕ → RecordView → NodeView
running_from net home kept = record {
  kept = kept;
  version = 0;
  restart = 0;
  armed = [];
  mode = Runs
      (record {
        current = kept.permanent;
        out = None;
        last = None;
        inboxes = opening_inboxes net home;
        outboxes =
            opening_outboxes net home;
        live = None;
      });
}

-- the node of this number, of so many; and as one that runs
abbrev pub opening_node : Network → ℕ → ℕ → NodeView
opening_node net nodes number = running_from net number (opening_record net nodes number)

abbrev pub opening_running : Network → ℕ → ℕ → RunningNode
opening_running net nodes number = record {
  kept = opening_record net nodes number;
  version = 0;
  current = opening_image net number;
  out = None;
  last = None;
  inboxes = opening_inboxes net number;
  outboxes = opening_outboxes net number;
}
