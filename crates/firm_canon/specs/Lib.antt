pub mod inner
pub mod Counts
