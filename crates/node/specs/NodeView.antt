-- A node as data, its store aside.
use Rattle.protocol.specs.Node.Common.{RecordView, NodeView, ModeView, Down, InDoubt, Runs}
use Rattle.node_memory.specs.RunningView.{running_view}
use Rattle.node.specs.declared.mode.Mode.{Mode}
use Rattle.node.specs.declared.mode.Mode.TheVariants as mode
use Rattle.node.specs.declared.state.NodeState.{NodeState}

abbrev pub mode_view : Mode → ModeView
mode_view mode.Down = Down
mode_view mode.InDoubt = InDoubt
mode_view (mode.Running running) = Runs (running_view running)

-- a node with this record
abbrev pub node_view : RecordView → NodeState → NodeView
node_view kept state =
    record {
      kept = kept;
      version = state.version;
      restart = state.restart;
      armed = state.armed.items;
      mode =
          mode_view state.mode;
    }
