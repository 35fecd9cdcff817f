pub mod Updates
pub mod Counted
