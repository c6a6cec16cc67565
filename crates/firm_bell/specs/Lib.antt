pub mod Bell
pub mod Steps
