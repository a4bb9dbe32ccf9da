pub mod Histories
pub mod Asked
pub mod Held
pub mod Textual
pub mod Places
pub mod Judging
pub mod Running
