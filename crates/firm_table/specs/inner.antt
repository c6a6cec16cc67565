pub mod Books
pub mod Serving
pub mod Reading
pub mod Seats
pub mod Tables
pub mod Events
pub mod Granting
