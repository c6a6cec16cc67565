pub mod Moves
pub mod ReadAloud
