pub mod Failures
pub mod Causes
pub mod Streamed
