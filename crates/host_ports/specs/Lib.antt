pub mod Forms
pub mod Ports
pub mod Speaking
