pub mod inner
pub mod Rents
pub mod Lowest
pub mod Placed
pub mod OtherSlots
pub mod CostParts
pub mod TwoTables
pub mod Levels
