pub mod Set
pub mod Digits
pub mod Words
pub mod Adds
pub mod Search
