pub mod Faults
pub mod Views
pub mod Fronts
pub mod Readings
pub mod Readers
pub mod Sheets
