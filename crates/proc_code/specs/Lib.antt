pub mod Machine
pub mod Translation
pub mod CodeView
pub mod Emitting
pub mod Laws
