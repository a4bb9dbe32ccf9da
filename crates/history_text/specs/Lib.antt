pub mod Events
pub mod Replies
pub mod Headers
pub mod Histories
