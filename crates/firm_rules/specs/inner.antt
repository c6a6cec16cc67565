-- What no public clause cites: how names, preferences, costs, the rows of a tenant and their case are kept.
pub mod Padding
pub mod Tables
pub mod Demands
pub mod Bids
