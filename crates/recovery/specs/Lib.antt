pub mod Chain
pub mod Turns
pub mod History
pub mod Runs
pub mod Boots
pub mod Counted
pub mod Updated
