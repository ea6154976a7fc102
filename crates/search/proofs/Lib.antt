pub mod Settings
pub mod Mapped
pub mod Searching
pub mod Worsts
pub mod Turning
pub mod Walks
pub mod Passes
