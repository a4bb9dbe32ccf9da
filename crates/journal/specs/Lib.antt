pub mod Rules
pub mod Histories
