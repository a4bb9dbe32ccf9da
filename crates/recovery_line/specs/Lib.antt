-- The coordination of checkpoints between several nodes: an abstract machine, and the theorem on it.
pub mod Images
pub mod Records
pub mod Moves
pub mod Observers
pub mod Nodes
pub mod Packets
pub mod Worlds
pub mod Line
pub mod Starts
pub mod Invariant
pub mod Laws
