pub mod StartsAgain
pub mod WasLeft
pub mod Moments
pub mod Laws
