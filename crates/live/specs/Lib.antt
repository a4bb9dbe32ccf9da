pub mod Steps
pub mod Waits
pub mod LiveViews
