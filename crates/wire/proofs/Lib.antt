pub mod Passing
pub mod Seen
pub mod Staged
pub mod Ready
pub mod Roomy
pub mod Indexed
pub mod Free
