pub mod View
pub mod Settled
pub mod Looks
pub mod Answers
pub mod Counted
