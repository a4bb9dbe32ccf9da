pub mod Turns
mod Remaining
mod GoingOn
pub mod Beginnings
mod LeftKept
pub mod Streams
pub mod Named
mod Filed
mod Lists
mod Naming
mod Given
pub mod Kept
pub mod InFolder
pub mod OneMeaning
