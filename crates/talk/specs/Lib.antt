pub mod Send
pub mod Reply
pub mod Pick
pub mod Receive
