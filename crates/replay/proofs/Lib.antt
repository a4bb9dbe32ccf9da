pub mod Replays
mod Turns
mod Looks
pub mod Outs
pub mod Silences
pub mod Choices
pub mod Rests
pub mod Endings
