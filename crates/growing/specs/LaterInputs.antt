-- Inputs to which items were added at the end. After Kahn, "The semantics of a simple language for parallel
-- programming" (1974): a history may be known only as far as it has come, and what comes later stands behind that.
use Rattle.std.specs.Prelude.{◌≡◌, ◌++◌, ℕ, ℤ, List, Some, slice_get, slice_set}
use Rattle.kahn_net.specs.Common.{Gets}
use Rattle.kahn_net.specs.Streams.{ArePrefixes}
use Rattle.protocol.specs.Node.Choosing.{next_at}
use Rattle.protocol.specs.Node.Common.{Channel, Fits, history_of, Network, Outside, RunningNode, running_of}
use Rattle.protocol.specs.Node.Common.{SavedProcessView}
use Rattle.protocol.specs.World.Common.{StationView, WorldView}

-- Later inputs of a network: each input begins with what it had, nothing of which is changed or taken away; and they
-- fit the network.
pub record AreLaterInputs (net : Network) (before after : List (List ℤ)) : Type 0 where
  pub longer : ArePrefixes before after
  pub fits : Fits net after

-- these inputs, where one of them has got these items behind those that it had
abbrev pub fed : ℕ → List ℤ → List (List ℤ) → List (List ℤ)
fed input items inputs = slice_set inputs input (history_of inputs input ++ items)

-- the same world, where it runs on these inputs
abbrev pub with_inputs : List (List ℤ) → WorldView → WorldView
with_inputs inputs world = record world { inputs = inputs }

-- No process of a node that runs waits for an input of which these inputs have more than the world's: one waits for the
-- input from which it gets next.
abbrev pub NoneWaitsForMore : WorldView → List (List ℤ) → Type 0
NoneWaitsForMore world inputs =
    (i k c : ℕ) (station : StationView) (node : RunningNode) (saved : SavedProcessView) (channel : Channel)
    → slice_get world.stations i ≡ Some station → running_of station.node ≡ Some node
    → slice_get node.current.processes k ≡ Some saved
    → next_at (slice_get world.net.codes saved.number) saved.standing ≡ Gets c
    → slice_get world.net.channels c ≡ Some channel → channel.producer ≡ Outside
    → history_of inputs c ≡ history_of world.inputs c
