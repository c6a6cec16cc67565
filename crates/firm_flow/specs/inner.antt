-- For proofs inside the crate: the invariants of its functions.
pub mod Push
