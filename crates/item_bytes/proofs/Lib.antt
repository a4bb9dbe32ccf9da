pub mod Pieces
pub mod Spelled
