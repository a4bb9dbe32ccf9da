-- A run of a network as one relation, and what is true of it.
pub mod Beginnings
pub mod Moments
pub mod Runs
pub mod Machine
pub mod WholeRun
pub mod Example
pub mod Histories
pub mod Premises
