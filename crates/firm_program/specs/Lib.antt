pub mod Faults
pub mod Files
pub mod Laws
pub mod Options
pub mod Runs
pub mod Words
