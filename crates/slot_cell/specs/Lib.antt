pub mod Whole
pub mod SplitLayout
pub mod SplitStands
pub mod SplitCell
