pub mod Running
pub mod Blocks
pub mod Resuming
pub mod Processes
pub mod Sites
pub mod Acts
pub mod Codes
