-- What no public clause cites: how a graph keeps what a contract sees of it, and its way from one row to the next.
pub mod Tables
pub mod Steps
pub mod Restored
pub mod Inside
