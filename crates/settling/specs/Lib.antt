pub mod Settle
pub mod Latest
