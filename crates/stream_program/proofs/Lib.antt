mod Causing
mod Naming
mod Opening
mod Preparing
