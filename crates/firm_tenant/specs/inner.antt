-- For proofs inside the crate: the outcome of a part of a step, and the pool of rows and costs of a book.
pub mod Outcomes
pub mod Pools
