pub mod Parts
pub mod Graph
pub mod Network
pub mod View
pub mod Ids
pub mod inner
