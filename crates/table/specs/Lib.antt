pub mod Cells
pub mod Rows
pub mod Stores
pub mod Clean
pub mod Choose
