-- For proofs inside the crate: the fold over the held answers, the states of places, desks and shares, and the progress
-- of a service.
pub mod Reckoned
pub mod DeskStates
pub mod Serving
pub mod Ending
pub mod Gathered
