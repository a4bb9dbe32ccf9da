pub mod Owners
pub mod Known
pub mod Rules
pub mod Names
pub mod Seats
