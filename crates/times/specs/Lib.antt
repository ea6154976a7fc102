pub mod Kind
pub mod Kinds
pub mod Clocks
pub mod Written
