pub mod Trees
pub mod Tournament
pub mod Listed
pub mod ArcRows
pub mod Beginnings
pub mod Counts
pub mod Labels
pub mod Looks
pub mod Walks
pub mod Settles
pub mod Rounds
pub mod Queues
pub mod Degrees
pub mod Turns
pub mod Offsets
pub mod Raised
pub mod Spreading
mod Examples
