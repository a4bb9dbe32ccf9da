pub mod Pieces
pub mod Counting
pub mod Spelled
pub mod Complete
pub mod Sound
