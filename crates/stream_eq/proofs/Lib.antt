pub mod Errors
pub mod Puts
pub mod Going
pub mod Loops
pub mod Rounds
pub mod Lengths
pub mod Chains
