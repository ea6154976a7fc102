pub mod Drawing
pub mod Faults
pub mod Reading
pub mod Naming
pub mod Pictures
pub mod Fits
pub mod Pens
