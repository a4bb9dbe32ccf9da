-- What follows from the meaning of networks, and from the rules of valid ones.
pub mod Syntax
pub mod Valid
pub mod Prefixes
pub mod Traces
pub mod Passes
pub mod Puts
pub mod Streams
pub mod Got
pub mod Resuming
pub mod NextActs
pub mod Rests
pub mod Approximations
pub mod Fixpoints
