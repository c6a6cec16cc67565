-- For proofs inside the crate: the invariants of its functions.
pub mod Graphs
pub mod Placed
pub mod Laws
pub mod Choosing
pub mod Turns
pub mod Keys
pub mod State
