pub mod Rules
pub mod Index
pub mod Queue
pub mod Wire
pub mod Traffic
pub mod Staging
pub mod RoomFor
