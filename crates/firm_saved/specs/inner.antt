-- For proofs inside the crate: the state while its text is read.
pub mod Loads
pub mod Kept
pub mod Returned
