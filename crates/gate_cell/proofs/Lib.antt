pub mod Areas
pub mod Lift
pub mod Standing
pub mod ReadBack
mod OnePut
mod PutMoves
mod GatePut
mod Laying
mod Finding
pub mod Ending
