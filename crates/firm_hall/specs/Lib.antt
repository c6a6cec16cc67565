pub mod Desks
pub mod Polls
pub mod Admissions
pub mod Opening
pub mod Closed
pub mod Faults
pub mod Counts
pub mod inner
