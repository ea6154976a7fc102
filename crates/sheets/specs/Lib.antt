pub mod Sheet
pub mod Verdicts
pub mod Words
pub mod Recogniser
