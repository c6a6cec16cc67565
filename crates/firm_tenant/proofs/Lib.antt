pub mod Counted
pub mod Steps
pub mod Calm
pub mod Counting
pub mod Starvation
pub mod Entries
mod Examples
mod RoundExamples
mod StarvationExamples
