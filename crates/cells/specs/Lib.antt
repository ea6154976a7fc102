pub mod Tables
pub mod Firsts
pub mod Deciding
pub mod Pins
