pub mod Steps
pub mod Verbs
pub mod Seats
pub mod Caller
pub mod Find
pub mod Address
