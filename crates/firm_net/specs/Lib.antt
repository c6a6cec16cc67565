pub mod Row
pub mod Net
pub mod Edits
pub mod Laws
pub mod inner
