pub mod Step
pub mod Alone
pub mod Laws
pub mod Starvation
pub mod Counts
pub mod inner
