pub mod Bytes
pub mod Refused
pub mod Accepted
pub mod Findings
pub mod Once
