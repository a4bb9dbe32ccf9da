pub mod Faults
pub mod Released
pub mod ReleaseLaws
