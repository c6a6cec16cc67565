pub mod Firsts
pub mod Lookups
pub mod Registering
pub mod Alones
mod Saving
mod Limited
pub mod Stays
mod Unmarked
mod Lines
mod SameRow
mod Beginnings
mod Examples
mod Books
mod Pieces
mod Progress
mod Written
mod Cuts
mod Texts
mod Stops
mod Ending
mod Fits
mod Stating
mod Ways
mod Stations
mod Kept
mod Machine
mod Rows
mod Agreeing
mod Interleaved
mod Waiting
mod Happening
mod Seating
mod Opened
mod Seated
mod Moves
mod Granting
