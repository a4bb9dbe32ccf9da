pub mod Lists
pub mod Acknowledged
pub mod Prefix
