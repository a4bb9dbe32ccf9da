-- What of a network lies on a node: its processes, and its ends of channels.
use Rattle.std.specs.Prelude.{ℕ, zero, suc, Bool, true, false, ◌==◌, ◌||◌, ◌&&◌, not, if◌then◌else◌}
use Rattle.std.specs.Prelude.{List, [], ◌∷◌, length, Option, Some, None, option_map, slice_get}
use Rattle.ckpt_codec.specs.Common.{Code, Network, Channel, Port, Outside, Process}

-- of so many numbers from a first one on, those that pass a test
abbrev pub numbers_where : (ℕ → Bool) → ℕ → ℕ → List ℕ
numbers_where test first zero = []
numbers_where test first (suc count) =
    if test first then first ∷ numbers_where test (suc first) count else numbers_where test (suc first) count

-- the node of the process at this end of a channel; none where the items come from outside or go there
abbrev pub node_at : Network → Port → Option ℕ
node_at net Outside = None
node_at net (Process p) = option_map (λ (code : Code). code.node) (slice_get net.codes p)

-- the node of the process that puts on a channel; none where the items come from outside
abbrev pub producer_of : Network → Option Channel → Option ℕ
producer_of net None = None
producer_of net (Some channel) = node_at net channel.producer

-- the node of the process that gets from a channel; none where the items go outside
abbrev pub consumer_of : Network → Option Channel → Option ℕ
consumer_of net None = None
consumer_of net (Some channel) = node_at net channel.consumer

-- there is such a node, and it is this one
abbrev pub is_node : ℕ → Option ℕ → Bool
is_node node None = false
is_node node (Some other) = other == node

-- a process of this code is on the node
abbrev pub is_on : ℕ → Option Code → Bool
is_on node code = is_node node (option_map (λ (c : Code). c.node) code)

abbrev pub has_process : Network → ℕ → ℕ → Bool
has_process net node p = is_on node (slice_get net.codes p)

-- at this end of a channel there is a process of the node
abbrev pub port_on : Network → ℕ → Port → Bool
port_on net node port = is_node node (node_at net port)

abbrev pub channel_on : Network → ℕ → Option Channel → Bool
channel_on net node None = false
channel_on net node (Some channel) = port_on net node channel.producer || port_on net node channel.consumer

-- the node has an end of this channel
abbrev pub has_end : Network → ℕ → ℕ → Bool
has_end net node c = channel_on net node (slice_get net.channels c)

-- at this end of a channel there is a process, but none of the node
abbrev pub port_away : Network → ℕ → Port → Bool
port_away net node Outside = false
port_away net node (Process p) = not (has_process net node p)

-- the channel comes to a process of the node from one of another node, or goes to one there
abbrev pub comes_in : Network → ℕ → Option Channel → Bool
comes_in net node None = false
comes_in net node (Some channel) = port_on net node channel.consumer && port_away net node channel.producer

abbrev pub goes_out : Network → ℕ → Option Channel → Bool
goes_out net node None = false
goes_out net node (Some channel) = port_on net node channel.producer && port_away net node channel.consumer

abbrev pub is_incoming : Network → ℕ → ℕ → Bool
is_incoming net node c = comes_in net node (slice_get net.channels c)

abbrev pub is_outgoing : Network → ℕ → ℕ → Bool
is_outgoing net node c = goes_out net node (slice_get net.channels c)

-- the role of the node's end: it receives (0), sends (1), or does both (2)
abbrev pub role_by : Bool → Bool → ℕ
role_by true true = 2
role_by true false = 1
role_by false gets = 0

abbrev pub role_here : Network → ℕ → Channel → ℕ
role_here net node channel = role_by (port_on net node channel.producer) (port_on net node channel.consumer)

-- the numbers of a node's processes
abbrev pub processes_on : Network → ℕ → List ℕ
processes_on net node = numbers_where (has_process net node) 0 (length net.codes)

-- the numbers of the channels of which a node has an end
abbrev pub ends_on : Network → ℕ → List ℕ
ends_on net node = numbers_where (has_end net node) 0 (length net.channels)

-- the numbers of the channels that come to a node from other nodes
abbrev pub incoming_on : Network → ℕ → List ℕ
incoming_on net node = numbers_where (is_incoming net node) 0 (length net.channels)

-- the numbers of the channels that go from a node to other nodes
abbrev pub outgoing_on : Network → ℕ → List ℕ
outgoing_on net node = numbers_where (is_outgoing net node) 0 (length net.channels)
