pub mod Letters
pub mod Complete
pub mod Language
pub mod Sound
pub mod Unique
pub mod Verdict
pub mod OneVerdict
