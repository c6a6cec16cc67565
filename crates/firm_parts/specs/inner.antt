-- For proofs inside the crate.
pub mod Joining
pub mod Seats
