-- For proofs inside the crate: how a net, its rows and its walks represent their values.
pub mod Place
pub mod Links
pub mod Fields
pub mod Inside
pub mod Arcs
