pub mod AtHand
pub mod Handing
pub mod JobView
pub mod RunningView
pub mod Searching
