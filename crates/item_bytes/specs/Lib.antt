pub mod Bytes
pub mod Reader
