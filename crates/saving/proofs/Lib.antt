pub mod Longest
pub mod Written
pub mod Reached
pub mod Held
pub mod Entries
