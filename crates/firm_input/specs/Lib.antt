pub mod ReadAhead
pub mod Rule
pub mod inner
