pub mod Rounds
pub mod Rule
pub mod Passes
pub mod Closed
pub mod Faults
pub mod Turning
pub mod inner
