-- Worlds that begin where processes were run again.
pub mod Images
pub mod Resuming
pub mod Disks
pub mod CatchingUp
