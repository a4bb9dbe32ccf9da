-- What follows of windows.
pub mod Arriving
pub mod Holding
pub mod Popping
