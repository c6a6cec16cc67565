mod Examples
mod RegisterExamples
mod OperatorExamples
pub mod Cuts
pub mod Commas
pub mod Fitting
pub mod Forms
pub mod Cutting
pub mod Digits
pub mod Puts
pub mod Csv
pub mod Fields
pub mod Differ
pub mod Judged
pub mod Places
mod Prefixes
