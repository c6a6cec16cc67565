pub mod Lowest
pub mod Bounds
pub mod Classes
