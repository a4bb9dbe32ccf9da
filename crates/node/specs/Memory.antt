-- What the crates above say of a node's memory, passed on from one place: they need not name `node_memory` then. Declares nothing.
pub use Rattle.node_memory.specs.JobView.{job_view, shared_view}
pub use Rattle.node_memory.specs.RunningView.{running_view}
