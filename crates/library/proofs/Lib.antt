pub mod Boards
pub mod Finding
