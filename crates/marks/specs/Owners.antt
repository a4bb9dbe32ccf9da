-- Which node owns each output of a network, and the seats of its nodes.
use Rattle.std.specs.Prelude.{◌≡◌, ℕ, zero, suc, List, [], ◌∷◌, map, Option, Some, None, option_map, slice_get}
use Rattle.std.specs.Prelude.{slice_index_or, IsSome}
use Rattle.kahn_net.specs.Common.{Code, Network}
use Rattle.kahn_net.specs.declared.program.Channel.{Channel}
use Rattle.kahn_net.specs.declared.program.Port.{Port}
use Rattle.kahn_net.specs.declared.program.Port.TheVariants.{Outside, Process}

-- the node of the process at this end of a channel; none outside
abbrev pub process_node : Network → Port → Option ℕ
process_node net Outside = None
process_node net (Process p) = option_map (λ (code : Code). code.node) (slice_get net.codes p)

-- The owner of a channel from a producer to a consumer. Where its items go outside, the channel is an output, and the
-- node that puts them there owns it. What another process gets is no output and has no owner.
abbrev pub owner_between : Network → (producer consumer : Port) → Option ℕ
owner_between net producer Outside = process_node net producer
owner_between net producer (Process p) = None

abbrev pub owner_in : Network → Channel → Option ℕ
owner_in net channel = owner_between net channel.producer channel.consumer

-- the owner of each channel of the network, in order
abbrev pub owners_in : Network → List (Option ℕ)
owners_in net = map (owner_in net) net.channels

-- the owner of the channel of this number; none beyond the channels
abbrev pub owner_at : List (Option ℕ) → ℕ → Option ℕ
owner_at owners channel = slice_index_or owners channel None

-- the channel is an output of this node; none, as the driver has it, owns no output
abbrev pub IsOutputOf : List (Option ℕ) → Option ℕ → ℕ → Type 0
IsOutputOf owners node channel = IsSome node × (owner_at owners channel ≡ node)

-- the nodes of so many seats in order, the first one of this number, and behind them the driver's seat, of no node
abbrev pub nodes_from : ℕ → ℕ → List (Option ℕ)
nodes_from first zero = None ∷ []
nodes_from first (suc count) = Some first ∷ nodes_from (suc first) count
