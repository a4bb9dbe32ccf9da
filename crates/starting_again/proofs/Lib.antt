mod AllDown
pub mod Again
pub mod Leaving
pub mod Moments
