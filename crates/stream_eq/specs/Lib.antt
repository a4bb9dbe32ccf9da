pub mod Faults
pub mod Limits
pub mod Play
pub mod Laws
pub mod Reached
