mod Ahead
pub mod Lining
pub mod Placing
