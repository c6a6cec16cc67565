-- Definitions that no public clause cites: the effect of the queue's steps on a seat, and the gathered shares.
pub mod Seats
pub mod Gathered
