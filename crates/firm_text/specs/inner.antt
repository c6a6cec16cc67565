-- For proofs inside the crate: the fields of a row, one by one, and a line that is read in place.
pub mod Fields
pub mod Reads
