pub mod Armed
pub mod Plain
pub mod Replies
pub mod Replay
pub mod Out
pub mod Laws
pub mod Rests
pub mod Endings
