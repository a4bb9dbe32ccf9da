pub mod Spelled
pub mod Stands
pub mod Puts
pub mod Parts
pub mod Images
pub mod Allowed
pub mod Alike
pub mod Loads
pub mod Undone
pub mod Changes
pub mod Seen
pub mod Room
mod Decisions
mod Framed
