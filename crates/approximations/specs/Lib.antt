pub mod AtHand
pub mod Adding
pub mod Progress
