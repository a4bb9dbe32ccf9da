pub mod Loop
pub mod Parts
pub mod Exactness
pub mod Rising
pub mod Lengths
