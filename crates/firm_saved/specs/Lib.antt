pub mod Saved
pub mod StateText
pub mod Faults
pub mod Lines
pub mod Drafts
pub mod Reading
pub mod StateLaws
pub mod inner
