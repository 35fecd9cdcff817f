pub mod Filled
pub mod Words
pub mod Bits
pub mod Lowest
pub mod Upto
