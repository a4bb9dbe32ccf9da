pub mod Cells
mod Releases
mod Planned
mod Events
mod Rests
mod Packets
mod Ready
mod Crashes
mod Sends
mod Arriving
pub mod Stances
