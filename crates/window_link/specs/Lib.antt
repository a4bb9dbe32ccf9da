pub mod Windows
pub mod Laws
pub mod Link
