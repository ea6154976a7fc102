pub mod Places
pub mod Shown
pub mod Standing
pub mod Stepping
pub mod Tested
