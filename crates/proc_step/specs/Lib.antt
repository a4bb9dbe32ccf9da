pub mod Turns
pub mod Parts
pub mod Jobs
pub mod NextView
pub mod TurnLaws
pub mod Stepping
pub mod Stacked
