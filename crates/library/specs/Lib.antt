pub mod Entries
pub mod Refusals
pub mod Board
pub mod Laws
