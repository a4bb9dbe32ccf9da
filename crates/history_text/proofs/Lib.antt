mod Writes
mod Nth
mod Names
mod Lines
