pub mod Entries
pub mod Options
