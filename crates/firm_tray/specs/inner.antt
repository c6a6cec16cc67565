-- For proofs inside the crate: the effect of each step on a seat, and the tray of a seat.
pub mod Steps
