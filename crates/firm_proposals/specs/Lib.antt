pub mod Proposed
pub mod inner
