pub mod Firsts
pub mod Pushing
pub mod Refused
