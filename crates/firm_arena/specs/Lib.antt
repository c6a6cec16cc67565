pub mod Arena
pub mod Steps
pub mod Laws
pub mod Changes
pub mod Sums
pub mod Lends
pub mod inner
