pub mod Locates
pub mod Locating
pub mod Sees
pub mod Looks
