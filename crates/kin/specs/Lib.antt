pub mod Climb
pub mod Turns
pub mod Family
pub mod Carried
