-- A node without pointers, and with its record.
use Rattle.gate_cell.specs.declared.cell.StableCell.{Ghosts as CellWords}
use Rattle.slot_cell.specs.declared.slot_cell.SlotCell.{Ghosts as SlotWords}
use Rattle.protocol.specs.Node.Common.{record_in, NodeView}
use Rattle.node.specs.NodeView.{node_view}
use Rattle.node.specs.declared.node.Node.{Node}

-- a `Node` as data without pointers, with the record of its store
abbrev pub view_of : {C : Type 0} {words : CellWords C} {slots : SlotWords C} → Node C slots words → NodeView
view_of node = node_view (record_in node.store) node.state
