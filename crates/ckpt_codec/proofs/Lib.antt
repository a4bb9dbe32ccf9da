mod Loop
mod Ordered
mod Scan
mod Combining
mod Bytes
mod Parts
mod Text
mod Records
mod Items
mod Wholes
mod Versioned
pub mod Headers
pub mod Exactness
mod Spelled
mod Walking
mod Bulk
pub mod Sizes
mod Fitting
mod Testing
pub mod Versions
mod HeaderSizes
pub mod Joined
