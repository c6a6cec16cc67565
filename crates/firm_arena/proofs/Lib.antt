pub mod Places
pub mod Reach
pub mod Parts
pub mod Rows
pub mod Heap
pub mod SlotLemmas
