pub mod Payments
pub mod Names
pub mod Cheapest
pub mod Rows
pub mod Bounding
pub mod OtherSlots
pub mod CostParts
pub mod NearestByBoth
pub mod Lexicographic
pub mod Levels
pub mod Comparing
pub mod Suiting
pub mod Counting
mod Examples
