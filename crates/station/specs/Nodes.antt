-- What the crates above say of a node, passed on from one place: they need not name `node` then. Declares nothing.
pub use Rattle.node.specs.NodeOf.{view_of}
pub use Rattle.node.specs.StoredView.{LeavesAsBefore}
pub use Rattle.node.specs.declared.node.Node.{Node}
