pub mod Sends
mod Left
mod Nowhere
mod Calls
mod Beginnings
mod Completeness
mod Turns
mod Causes
mod Marked
mod Shown
