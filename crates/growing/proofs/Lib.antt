pub mod Meaning
pub mod Adding
mod Standing
pub mod Feeding
pub mod Quiet
pub mod GoingOn
