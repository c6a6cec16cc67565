pub mod Weighs
pub mod Caps
pub mod Fairs
pub mod Cutting
pub mod Gathered
pub mod Opened
