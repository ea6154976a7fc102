pub mod Least
pub mod Sketches
pub mod Refusals
pub mod Drafts
