pub mod CellFault
pub mod Calls
pub mod Setup
pub mod ValueCall
pub mod Layout
pub mod Stands
pub mod GateCell
