pub mod Rows
pub mod Forcing
pub mod FirstLaws
pub mod DecidingLaws
pub mod PinSlots
pub mod Walks
