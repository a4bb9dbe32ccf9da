-- What a folder holds, and what is told of it.
pub mod Texts
pub mod Files
pub mod Causes
pub mod Kept
pub mod Endings
pub mod Lines
