pub mod RestoredView
pub mod StoredCounts
