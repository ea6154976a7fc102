pub mod Moved
pub mod Running
