pub mod Plain
pub mod Asked
pub mod Refusals
pub mod Answers
pub mod Runs
