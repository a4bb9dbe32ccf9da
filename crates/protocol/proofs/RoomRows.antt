-- Which channel needs more room in small worlds, worked out by hand: each row says what `needed_for` comes to for a node.
use Rattle.std.proofs.Common.{◌≡◌, ℕ, ℤ, pos, List, [], ◌∷◌, Option, Some, None, refl, replicate}
use Rattle.ckpt_codec.specs.Common.{Code, Network, Channel, Outside, Process, ImageView, RecordView, Receives, Sends}
use Rattle.ckpt_codec.specs.Common.{SavedEnd, SavedProcessView, LogState, Tentative, MAX_COUNT}
use Rattle.kahn_net.specs.Common.{Block, GetThen, PutThen, Nothing, Number, point_at}
use Rattle.kahn_net.specs.Processes.Standing.{At, Done, NotBegun}
use Rattle.record.specs.declared.image.End.TheVariants.{Both}
use Rattle.wire.specs.Traffic.{opening_traffic}
use Rattle.protocol.specs.Node.JobView.{JobView}
use Rattle.protocol.specs.Node.NodeView.{ModeView, Down, Runs}
use Rattle.protocol.specs.World.RoomNeeds.{needed_for}
use Rattle.protocol.specs.World.StationView.{OutletView, StationView}
use Rattle.protocol.specs.World.Steps.{WorldView}
use Rattle.protocol.specs.World.Turns.{no_turns}
use Rattle.protocol.specs.declared.links.Inbox.{Inbox}
use Rattle.protocol.specs.declared.links.Outbox.{Outbox}

-- ---- how the worlds are made: a channel has room for two items

-- the code of a process of a node that does this first
abbrev code_on : ℕ → Block → Code
code_on node first = record { node = node; vars = []; prelude = first; body = None }

abbrev puts : ℕ → Block
puts channel = PutThen (Number (pos 0)) channel Nothing

abbrev gets : ℕ → Block
gets channel = GetThen 0 channel Nothing

abbrev runs_to : ℕ → ℕ → Channel
runs_to from to = record { producer = Process from; consumer = Process to }

-- a process that stands before what it does first, and one that has finished
abbrev before : ℕ → SavedProcessView
before number = record { number = number; standing = At (point_at 0 []) [] }

abbrev done : ℕ → SavedProcessView
done number = record { number = number; standing = Done [] }

abbrev new : ℕ → SavedProcessView
new number = record { number = number; standing = NotBegun [] }

abbrev zeros : ℕ → ℕ → LogState
zeros base count = record { base = base; items = replicate count (pos 0) }

-- a channel that stays on its node, of which this log has what wasn't got
abbrev inner : ℕ → LogState → SavedEnd
inner channel log = record { channel = channel; end = Both log.base log }

abbrev no_image : ImageView
no_image = record { processes = []; ends = [] }

abbrev keeping : ℕ → ImageView → Option Tentative → RecordView
keeping number permanent tentative = record {
  node = number;
  epoch = 0;
  highest = [];
  decisions = [];
  permanent = permanent;
  tentative = tentative;
}

abbrev station_of : ℕ → RecordView → ModeView → List OutletView → StationView
station_of number kept mode outlets = record {
  number = number;
  node = record { kept = kept; version = 0; restart = 0; armed = []; mode = mode };
  failures = 0;
  outlets = outlets;
  turns = no_turns 0;
}

abbrev running : ImageView → Option JobView → List Inbox → List Outbox → ModeView
running image out inboxes outboxes =
    Runs
    (record { current = image; out = out; last = None; inboxes = inboxes; outboxes = outboxes; live = None })

abbrev world_of : Network → List (List ℤ) → List StationView → WorldView
world_of net inputs stations = record {
  net = net;
  inputs = inputs;
  stations = stations;
  traffic = opening_traffic;
  round = 0;
  rooms = 2 ∷ 2 ∷ 2 ∷ 2 ∷ [];
}

-- a world of one node
abbrev alone : List Channel → List Code → List SavedProcessView → List SavedEnd → WorldView
alone channels codes processes ends =
    world_of (record { channels = channels; codes = codes }) []
    (station_of 0 (keeping 0 no_image None) (running (record { processes = processes; ends = ends }) None [] []) []
    ∷ [])

-- ---- on one node

-- 0 is held at a put to 1, which has finished
consumer_has_finished : needed_for
    (alone (runs_to 0 1 ∷ []) (code_on 0 (puts 0) ∷ code_on 0 (gets 0) ∷ []) (before 0 ∷ done 1 ∷ [])
    (inner 0 (zeros 5 2) ∷ [])) 0 ≡ Some 0
consumer_has_finished = refl

-- there is a place yet
has_a_place : needed_for
    (alone (runs_to 0 1 ∷ []) (code_on 0 (puts 0) ∷ code_on 0 (gets 0) ∷ []) (before 0 ∷ done 1 ∷ [])
    (inner 0 (zeros 5 1) ∷ [])) 0 ≡ None
has_a_place = refl

-- 0 is held at a put to 1, which waits for an item from 0
cycle_of_two : needed_for
    (alone (runs_to 0 1 ∷ runs_to 0 1 ∷ []) (code_on 0 (puts 0) ∷ code_on 0 (gets 1) ∷ []) (before 0 ∷ before 1 ∷ [])
    (inner 0 (zeros 0 2) ∷ inner 1 (zeros 3 0) ∷ [])) 0 ≡ Some 0
cycle_of_two = refl

-- 0 and 1 are held at puts to each other
both_are_held : needed_for
    (alone (runs_to 0 1 ∷ runs_to 1 0 ∷ []) (code_on 0 (puts 0) ∷ code_on 0 (puts 1) ∷ []) (before 0 ∷ before 1 ∷ [])
    (inner 0 (zeros 0 2) ∷ inner 1 (zeros 3 2) ∷ [])) 0 ≡ Some 0
both_are_held = refl

-- 0 is held at a put to 1; and 1 is held at a put to 2, which waits for an item from 1
chain_behind_cycle : needed_for
    (alone (runs_to 0 1 ∷ runs_to 1 2 ∷ runs_to 1 2 ∷ [])
    (code_on 0 (puts 0) ∷ code_on 0 (puts 1) ∷ code_on 0 (gets 2) ∷ []) (before 0 ∷ before 1 ∷ before 2 ∷ [])
    (inner 0 (zeros 0 2) ∷ inner 1 (zeros 0 2) ∷ inner 2 (zeros 0 0) ∷ [])) 0 ≡ Some 1
chain_behind_cycle = refl

-- 0 is held at a put to 1, and 1 at a put to 2, which has finished
chain_to_an_end : needed_for
    (alone (runs_to 0 1 ∷ runs_to 1 2 ∷ []) (code_on 0 (puts 0) ∷ code_on 0 (puts 1) ∷ code_on 0 (gets 1) ∷ [])
    (before 0 ∷ before 1 ∷ done 2 ∷ []) (inner 0 (zeros 0 2) ∷ inner 1 (zeros 0 2) ∷ [])) 0 ≡ Some 1
chain_to_an_end = refl

-- 1 goes on, since an item is at hand
consumer_is_slow : needed_for
    (alone (runs_to 0 1 ∷ []) (code_on 0 (puts 0) ∷ code_on 0 (gets 0) ∷ []) (before 0 ∷ before 1 ∷ [])
    (inner 0 (zeros 0 2) ∷ [])) 0 ≡ None
consumer_is_slow = refl

-- 0 is held at a put to 1, and 1 at a put to 2, which goes on
last_one_is_slow : needed_for
    (alone (runs_to 0 1 ∷ runs_to 1 2 ∷ []) (code_on 0 (puts 0) ∷ code_on 0 (puts 1) ∷ code_on 0 (gets 1) ∷ [])
    (before 0 ∷ before 1 ∷ before 2 ∷ []) (inner 0 (zeros 0 2) ∷ inner 1 (zeros 0 2) ∷ [])) 0 ≡ None
last_one_is_slow = refl

-- 2 goes on for ever beside the others
endless_beside : needed_for
    (alone (runs_to 0 1 ∷ []) (code_on 0 (puts 0) ∷ code_on 0 (gets 0) ∷ code_on 0 (puts 1) ∷ [])
    (before 0 ∷ done 1 ∷ new 2 ∷ [])
    (inner 0 (zeros 0 2) ∷ [])) 0 ≡ Some 0
endless_beside = refl

-- 0 and 1 wait for an item from each other
nobody_puts : needed_for
    (alone (runs_to 0 1 ∷ runs_to 1 0 ∷ []) (code_on 0 (gets 1) ∷ code_on 0 (gets 0) ∷ []) (before 0 ∷ before 1 ∷ [])
    (inner 0 (zeros 0 0) ∷ inner 1 (zeros 0 0) ∷ [])) 0 ≡ None
nobody_puts = refl

-- 0 is held at a put to 1, and 1 and 2 wait for an item from each other
held_before_those : needed_for
    (alone (runs_to 0 1 ∷ runs_to 1 2 ∷ runs_to 2 1 ∷ [])
    (code_on 0 (puts 0) ∷ code_on 0 (gets 2) ∷ code_on 0 (gets 1) ∷ []) (before 0 ∷ before 1 ∷ before 2 ∷ [])
    (inner 0 (zeros 0 2) ∷ inner 1 (zeros 0 0) ∷ inner 2 (zeros 0 0) ∷ [])) 0 ≡ Some 0
held_before_those = refl

-- The way leads by way of one that can't have more, since positions end there: 0 is held at a put to 1, and 1 at one to
-- 2, which has finished.
next_is_full : needed_for
    (alone (runs_to 0 1 ∷ runs_to 1 2 ∷ []) (code_on 0 (puts 0) ∷ code_on 0 (puts 1) ∷ code_on 0 (gets 1) ∷ [])
    (before 0 ∷ before 1 ∷ done 2 ∷ []) (inner 0 (zeros 0 2) ∷ inner 1 (zeros MAX_COUNT 0) ∷ [])) 0 ≡ Some 0
next_is_full = refl

-- ---- inputs and outputs

abbrev fed : ℕ → WorldView
fed received =
    world_of (record {
      channels = runs_to 0 1 ∷ record { producer = Outside; consumer = Process 1 } ∷ [];
      codes = code_on 0 (puts 0) ∷ code_on 0 (gets 1) ∷ [];
    }) ([] ∷ (pos 7 ∷ pos 8 ∷ []) ∷ [])
    (station_of 0 (keeping 0 no_image None)
    (running (record {
      processes = before 0 ∷ before 1 ∷ [];
      ends = inner 0 (zeros 0 2) ∷ record { channel = 1; end = Receives received } ∷ [];
    }) None [] []) [] ∷ [])

-- 0 is held at a put to 1, which waits for an item of an input that is exhausted, or that isn't
input_is_exhausted : needed_for (fed 2) 0 ≡ Some 0
input_is_exhausted = refl

input_goes_on : needed_for (fed 1) 0 ≡ None
input_goes_on = refl

-- 0 is held at a put on an output that has let go of all before the last two items, and whose outlet has so many
abbrev putting_out : List ℤ → WorldView
putting_out taken =
    world_of (record {
      channels = record { producer = Process 0; consumer = Outside } ∷ [];
      codes = code_on 0 (puts 0) ∷ [];
    }) []
    (station_of 0 (keeping 0 no_image None)
    (running
    (record { processes = before 0 ∷ []; ends = record { channel = 0; end = Sends (zeros 1 2) } ∷ [] })
    None [] []) (record { channel = 0; taken = taken; failed = None; failures = 0 } ∷ []) ∷ [])

items_leave : needed_for (putting_out (pos 0 ∷ pos 0 ∷ [])) 0 ≡ None
items_leave = refl

all_has_left : needed_for (putting_out (pos 0 ∷ pos 0 ∷ pos 0 ∷ [])) 0 ≡ Some 0
all_has_left = refl

-- ---- on two nodes: 0 on node 0 is held at a put to 1 on node 1, which waits for an item from 0

abbrev pair : Network
pair = record {
  channels = runs_to 0 1 ∷ runs_to 0 1 ∷ [];
  codes = code_on 0 (puts 0) ∷ code_on 1 (gets 1) ∷ [];
}

abbrev sends : ℕ → LogState → SavedEnd
sends channel log = record { channel = channel; end = Sends log }

abbrev receives : ℕ → ℕ → SavedEnd
receives channel received = record { channel = channel; end = Receives received }

abbrev outbox : ℕ → Outbox
outbox channel = record { channel = channel; window = record { size = 64; epoch = 0; acknowledged = 0 }; restored = 0 }

-- what came up to a position, and wasn't got yet from another one on
abbrev inbox : ℕ → ℕ → ℕ → Inbox
inbox channel from next = record {
  channel = channel;
  window = record { epoch = 0; next = next; held = [] };
  log = record { base = from; items = [] };
  undone = 0;
}

-- of channel 0 its log has two items from this position on, and node 1 has got so many; on channel 1 three were put,
-- of which so many came
abbrev sender : ℕ → Option JobView → Option Tentative → StationView
sender base out tentative =
    station_of 0 (keeping 0 no_image tentative)
    (running (record { processes = before 0 ∷ []; ends = sends 0 (zeros base 2) ∷ sends 1 (zeros 3 0) ∷ [] }) out
    [] (outbox 0 ∷ outbox 1 ∷ [])) []

abbrev getter : ℕ → ℕ → StationView
getter got came =
    station_of 1 (keeping 1 no_image None)
    (running (record { processes = before 1 ∷ []; ends = receives 0 got ∷ receives 1 came ∷ [] }) None
    (inbox 0 got got ∷ inbox 1 came came ∷ []) []) []

abbrev across : StationView → StationView → WorldView
across first second = world_of pair [] (first ∷ second ∷ [])

nothing_under_way : needed_for (across (sender 4 None None) (getter 4 3)) 0 ≡ Some 0
nothing_under_way = refl

-- and no process of node 1 is held
none_of_node_1_is_held : needed_for (across (sender 4 None None) (getter 4 3)) 1 ≡ None
none_of_node_1_is_held = refl

-- an item is on its way to 1
item_comes : needed_for (across (sender 4 None None) (getter 4 2)) 0 ≡ None
item_comes = refl

-- the log still has an item that was got, and lets go of it once that is kept for good
item_is_let_go : needed_for (across (sender 3 None None) (getter 4 3)) 0 ≡ None
item_is_let_go = refl

-- node 1 is down, and comes back
comes_back : needed_for (across (sender 4 None None) (station_of 1 (keeping 1 no_image None) Down [])) 0 ≡ None
comes_back = refl

abbrev job_of : ℕ → JobView
job_of process =
    record { process = process; code = None; version = 0; standing = Done []; items = []; room = [] }

-- the job of 0 is out, or that of another process
own_job_is_out : needed_for (across (sender 4 (Some (job_of 0)) None) (getter 4 3)) 0 ≡ None
own_job_is_out = refl

another_is_out : needed_for (across (sender 4 (Some (job_of 2)) None) (getter 4 3)) 0 ≡ Some 0
another_is_out = refl

-- node 0 takes part in a checkpoint, which lets no process go on that waits
holds_an_image : needed_for
    (across (sender 4 None (Some (record { initiator = 0; number = 1; image = no_image }))) (getter 4 3)) 0 ≡ Some 0
holds_an_image = refl
