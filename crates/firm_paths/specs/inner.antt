-- For proofs inside the crate: the invariants of its functions.
pub mod Search
pub mod Spread
pub mod Walk
pub mod Queue
