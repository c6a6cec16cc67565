pub mod Parts
pub mod Settling
pub mod Books
pub mod Joined
