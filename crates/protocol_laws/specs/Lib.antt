pub mod Node
pub mod World
pub mod Join
