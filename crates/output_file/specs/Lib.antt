pub mod Lines
pub mod Reading
pub mod Writing
pub mod Output
pub mod InFile
