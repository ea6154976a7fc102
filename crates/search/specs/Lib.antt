pub mod Search
pub mod Turns
pub mod Walk
pub mod Worst
