-- For proofs inside the crate.
pub mod Options
