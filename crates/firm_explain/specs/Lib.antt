pub mod CommandLine
pub mod Program
pub mod RoundRows
pub mod inner
