pub mod Faults
pub mod LogState
