-- A log of an image without what has left the system, and how one item leaves.
use Rattle.std.specs.Prelude.{◌≡◌, ℕ, ◌+◌, ◌++◌, ℤ, List, [], length, Option, Some, None}
use Rattle.ckpt_codec.specs.Common.{LogState, ImageView}
use Rattle.retained.specs.LogState.{items_at}
use Rattle.outlet.specs.Released.{CanRelease}
use Rattle.record.specs.Changes.{trimmed_image}
use Rattle.record.specs.Ends.{log_of}
use Rattle.protocol.specs.Node.NodeView.{NodeView, ModeView, Down, InDoubt, Runs, RunningView, RunningNode, on_running}

abbrev pub with_current : ImageView → RunningNode → RunningNode
with_current image node = record node { current = image }

-- the node with the log of this channel so cut, if it runs
abbrev pub cut_at : ℕ → ℕ → RunningView → RunningView
cut_at channel position running = record running { current = trimmed_image channel position running.current }

abbrev pub trimmed_node : ℕ → ℕ → NodeView → NodeView
trimmed_node channel position node = on_running (cut_at channel position) node

-- the log of this channel that a node has now, if it runs
abbrev pub current_log : ℕ → ModeView → Option LogState
current_log channel Down = None
current_log channel InDoubt = None
current_log channel (Runs running) = log_of running.current channel

-- the log of this channel has the item that comes next for an outlet that took so many
abbrev pub HasNext : Option LogState → ℕ → Type 0
HasNext None len = ⊥
HasNext (Some log) len = CanRelease log len (len + 1)

-- the item at a position of the log of a channel, as a list: none where there is no log, or not that position
abbrev pub logged_at : Option LogState → ℕ → List ℤ
logged_at None position = []
logged_at (Some log) position = items_at log position

-- an outlet took the item that comes next for it in this log
abbrev pub TookNext : Option LogState → List ℤ → List ℤ → Type 0
TookNext log old new = new ≡ old ++ logged_at log (length old)
