pub mod Slots
mod SplitMoves
mod Filling
mod Framing
mod Heading
mod Slotting
