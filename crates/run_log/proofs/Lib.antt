mod Raising
mod Usuals
mod Adding
mod Arming
mod Rested
mod Kept
mod Stepped
mod Needed
