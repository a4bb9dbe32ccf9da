-- In which mode a node is, and how it goes down.
use Rattle.std.specs.Prelude.{ℕ, ◌+◌, nat_lt, if◌then◌else◌, Bool, true, false, Option, Some, None}
use Rattle.ckpt_codec.specs.Common.{RecordView, MAX_COUNT}
use Rattle.protocol.specs.Node.NodeView.{NodeView, ModeView, Down, InDoubt, Runs, RunningNode}

-- nothing is there
abbrev pub is_none : {A : Type 0} → Option A → Bool
is_none None = true
is_none (Some x) = false

abbrev pub is_running : ModeView → Bool
is_running Down = false
is_running InDoubt = false
is_running (Runs running) = true

abbrev pub is_down : ModeView → Bool
is_down Down = true
is_down InDoubt = false
is_down (Runs running) = false

-- the next number, round or version, which stops at the greatest
abbrev pub next_number : ℕ → ℕ
next_number n = if nat_lt n MAX_COUNT then n + 1 else n

-- with another record
abbrev pub with_kept : RecordView → NodeView → NodeView
with_kept kept node = record node { kept = kept }

abbrev pub keeping : RecordView → RunningNode → RunningNode
keeping kept node = record node { kept = kept }

-- the version of a node that goes down: it rises, unless the node is down already
abbrev pub version_down : NodeView → ℕ
version_down node = if is_down node.mode then node.version else next_number node.version

-- a node that went down, or stays so, and may be recovered from this round on: what it had in memory is gone
abbrev pub crashed : ℕ → NodeView → NodeView
crashed restart node =
    record { kept = node.kept; version = version_down node; restart = restart; armed = node.armed; mode = Down }
