pub mod Faults
pub mod Items
pub mod Lines
pub mod Texts
