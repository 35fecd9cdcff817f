pub mod Runs
pub mod Boots
pub mod History
pub mod Turns
pub mod Updated
