pub mod Texts
pub mod Answers
pub mod Plans
pub mod Planned
pub mod Told
