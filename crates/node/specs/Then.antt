-- What becomes of a node's memory: alone, or behind a put that was made.
use Rattle.std.specs.Prelude.{◌≤◌, Option, Some, None}
use Rattle.protocol.specs.Node.Common.{MAX_COUNT, noting_undone, next_number, IsRestorable, collecting}
use Rattle.protocol.specs.Node.Common.{hearing_covered, NodeView, ModeView, Down, InDoubt, Runs, on_mode, on_running}
use Rattle.protocol.specs.Node.Common.{cut_at}
use Rattle.protocol.specs.Node.GoingBack.{set_back_from}
use Rattle.protocol.specs.Node.NodeView.{with_mode}
use Rattle.rollback_core.specs.RestoredView.{restored_view}
use Rattle.rollback_core.specs.declared.restoring.Restored.{Restored}
use Rattle.node.specs.declared.checkpoint.Then.{Then}
use Rattle.node.specs.declared.checkpoint.Then.TheVariants as then_is

-- a node that was in doubt runs with what it restored
abbrev pub mode_from : Restored → ModeView → ModeView
mode_from restored Down = Down
mode_from restored InDoubt = Runs (restored_view restored)
mode_from restored (Runs running) = Runs running

-- or stays as it is
abbrev pub mode_of : Option Restored → ModeView → ModeView
mode_of None mode = mode
mode_of (Some restored) mode = mode_from restored mode

abbrev pub then_node : Then → NodeView → NodeView
then_node then_is.Stays node = node
then_node (then_is.Collects live) node = on_running (collecting live) node
then_node (then_is.Covers number channel) node = on_running (hearing_covered number channel) node
then_node (then_is.Cuts channel count) node = on_running (cut_at channel count) node
then_node (then_is.Notes channel epoch) node = on_running (noting_undone channel epoch) node
then_node (then_is.Runs restored) node = with_mode (mode_of restored node.mode) node
then_node (then_is.GoesBack image own channel epoch) node = record {
  kept = node.kept;
  version = next_number node.version;
  restart = node.restart;
  armed = node.armed;
  mode = on_mode (set_back_from image own channel epoch) node.mode;
}

-- it may be done
abbrev pub MayFollow : Then → Type 0
MayFollow then_is.Stays = Unit {0}
MayFollow (then_is.Collects live) = Unit {0}
MayFollow (then_is.Covers number channel) = Unit {0}
MayFollow (then_is.Cuts channel count) = Unit {0}
MayFollow (then_is.Notes channel epoch) = Unit {0}
MayFollow (then_is.Runs restored) = Unit {0}
MayFollow (then_is.GoesBack image own channel epoch) = IsRestorable image × (own ≤ MAX_COUNT)
