pub mod Linked
pub mod Stops
