-- For proofs inside the crate: how a block of memory is owned and lent, and how its slots represent an arena's map.
pub mod Slot
pub mod SlotLends
pub mod Block
pub mod BlockLends
pub mod Ownership
