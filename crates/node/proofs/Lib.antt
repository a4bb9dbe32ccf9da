pub mod Records
mod Opened
mod Raising
mod Checkpoints
mod Recoveries
mod Restores
mod Puts
mod Changes
mod Memory
mod Verdicts
mod Hears
