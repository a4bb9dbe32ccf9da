-- Processes that are run again, alone.
pub mod Rerunning
pub mod Soundness
pub mod Lines
pub mod Tables
pub mod TableOf
pub mod Steps
pub mod Moving
pub mod Resting
pub mod Stops
pub mod Places
pub mod Whole
