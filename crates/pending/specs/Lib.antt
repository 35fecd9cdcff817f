pub mod Digits
pub mod First
