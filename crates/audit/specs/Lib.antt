pub mod Tests
pub mod Alone
pub mod Judge
pub mod Passes
pub mod Loops
pub mod Rings
pub mod Whole
