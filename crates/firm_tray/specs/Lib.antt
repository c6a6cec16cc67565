pub mod Solved
pub mod Sides
pub mod Polls
pub mod Rule
pub mod Reading
pub mod inner
