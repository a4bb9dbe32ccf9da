-- A world in which nothing is left to do.
use Rattle.std.specs.Prelude.{◌≡◌, ◌==◌, ℕ, nat_le, Bool, true, false, ◌&&◌, ℤ, List, [], ◌∷◌, length, Option, Some}
use Rattle.std.specs.Prelude.{None, slice_get}
use Rattle.ckpt_codec.specs.Common.{history_of, Code, Network, approximation, Channel, Port, Outside, Process}
use Rattle.ckpt_codec.specs.Common.{SavedProcessView, ImageView, received_of, sent_of, SavedEnd}
use Rattle.kahn_net.specs.Common.{Next, Gets, Puts, NoNext, IsReached}
use Rattle.kahn_net.specs.NextActs.{Begins}
use Rattle.protocol.specs.Node.NodeView.{RunningNode, running_of}
use Rattle.protocol.specs.Node.Choosing.{next_at}
use Rattle.protocol.specs.Node.Modes.{is_none}
use Rattle.std.specs.List.{list_all}
use Rattle.protocol.specs.World.Invariant.{outputs_of}
use Rattle.protocol.specs.World.OutputView.{OutputView}
use Rattle.protocol.specs.World.StationView.{StationView}
use Rattle.protocol.specs.World.Steps.{WorldView}

-- how many items a node has put on a channel by now: none, where it doesn't run
abbrev pub sent_by : ℕ → Option RunningNode → ℕ
sent_by channel None = 0
sent_by channel (Some node) = sent_of node.current channel

abbrev pub sent_at : ℕ → Option StationView → ℕ
sent_at channel None = 0
sent_at channel (Some station) = sent_by channel (running_of station.node)

-- how many items were put on a channel by now by the process of this code: as many as its own node says
abbrev pub put_on_by : List StationView → ℕ → Option Code → ℕ
put_on_by stations channel None = 0
put_on_by stations channel (Some code) = sent_at channel (slice_get stations code.node)

-- every item of a channel was received: of an input all that there are, of any other all that were put by now
abbrev pub got_all : Network → List (List ℤ) → List StationView → ImageView → ℕ → Port → Bool
got_all net inputs stations image channel Outside = received_of image channel == length (history_of inputs channel)
got_all net inputs stations image channel (Process p) =
    received_of image channel == put_on_by stations channel (slice_get net.codes p)

abbrev pub has_got_all : Network → List (List ℤ) → List StationView → ImageView → ℕ → Option Channel → Bool
has_got_all net inputs stations image channel None = false
has_got_all net inputs stations image channel (Some ends) = got_all net inputs stations image channel ends.producer

-- a process can do nothing more: it has finished, or it gets from a channel of which every item was received
abbrev pub can_rest : Network → List (List ℤ) → List StationView → ImageView → Next → Bool
can_rest net inputs stations image Begins = false
can_rest net inputs stations image (Gets channel) =
    has_got_all net inputs stations image channel (slice_get net.channels channel)
can_rest net inputs stations image (Puts channel) = false
can_rest net inputs stations image NoNext = true

-- a process is at rest: it has finished, or waits for an item of a channel of which as much was received as was put
-- by now
abbrev pub is_at_rest : Network → List (List ℤ) → List StationView → ImageView → SavedProcessView → Bool
is_at_rest net inputs stations image saved =
    can_rest net inputs stations image (next_at (slice_get net.codes saved.number) saved.standing)

abbrev pub are_at_rest : Network → List (List ℤ) → List StationView → ImageView → List SavedProcessView → Bool
are_at_rest net inputs stations image [] = true
are_at_rest net inputs stations image (saved ∷ processes) =
    is_at_rest net inputs stations image saved && are_at_rest net inputs stations image processes

-- no more was received of a channel between processes than was put there by now
abbrev pub was_put : Network → List StationView → ImageView → ℕ → Port → Bool
was_put net stations image channel Outside = true
was_put net stations image channel (Process p) =
    nat_le (received_of image channel) (put_on_by stations channel (slice_get net.codes p))

abbrev pub has_been_put : Network → List StationView → ImageView → ℕ → Option Channel → Bool
has_been_put net stations image channel None = true
has_been_put net stations image channel (Some ends) = was_put net stations image channel ends.producer

abbrev pub have_been_put : Network → List StationView → ImageView → List SavedEnd → Bool
have_been_put net stations image [] = true
have_been_put net stations image (saved ∷ ends) =
    has_been_put net stations image saved.channel (slice_get net.channels saved.channel) && have_been_put net stations
    image ends

-- each outlet has all that was put
abbrev pub have_all_left : ImageView → List OutputView → Bool
have_all_left image [] = true
have_all_left image (output ∷ outputs) =
    (length output.taken == sent_of image output.channel) && have_all_left image outputs

-- Nothing is left to do at a node that runs beside these: no job is out, all that its processes put has left, they are at
-- rest, and it has received nothing that wasn't put by now. (A node that goes back behind what another has of it puts that
-- again.)
abbrev pub is_quiet : Network → List (List ℤ) → List StationView → RunningNode → List OutputView → Bool
is_quiet net inputs stations node outputs =
    is_none node.out &&
    (have_all_left node.current outputs &&
    (are_at_rest net inputs stations node.current node.current.processes &&
    have_been_put net stations node.current node.current.ends))

abbrev pub is_quiet_at : Network → List (List ℤ) → List StationView → Option RunningNode → List OutputView → Bool
is_quiet_at net inputs stations None outputs = false
is_quiet_at net inputs stations (Some node) outputs = is_quiet net inputs stations node outputs

-- nothing is left to do at any station of a world
abbrev pub are_quiet : WorldView → Bool
are_quiet world =
    list_all
    (λ (station : StationView). is_quiet_at world.net world.inputs world.stations (running_of station.node)
    (outputs_of station.outlets)) world.stations

-- and at none that a world has of this number
abbrev pub is_quiet_of : WorldView → Option StationView → Bool
is_quiet_of world None = true
is_quiet_of world (Some station) =
    is_quiet_at world.net world.inputs world.stations (running_of station.node) (outputs_of station.outlets)

abbrev pub is_node_quiet : WorldView → ℕ → Bool
is_node_quiet world number = is_quiet_of world (slice_get world.stations number)

-- by each of these outputs the whole history of its channel in the n-th approximation has left
abbrev pub AreAll : Network → List (List ℤ) → List OutputView → ℕ → Type 0
AreAll net inputs outputs n =
    (j : ℕ) (output : OutputView) → slice_get outputs j ≡ Some output
    → output.taken ≡ history_of (approximation net inputs n) output.channel

-- The streams that left a world are whole: the approximations come to rest at some n, which is then the network's least
-- solution, and each output has left to its end there.
abbrev pub AreWhole : WorldView → Type 0
AreWhole world = ∥ ((n : ℕ) × IsReached world.net world.inputs n
    × ((i : ℕ) (station : StationView) → slice_get world.stations i ≡ Some station
    → AreAll world.net world.inputs (outputs_of station.outlets) n)) ∥₁
