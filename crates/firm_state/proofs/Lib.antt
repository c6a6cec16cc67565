pub mod Changes
pub mod GoingOn
pub mod Naming
pub mod Stopping
