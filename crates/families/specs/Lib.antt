pub mod Tables
pub mod Pairs
