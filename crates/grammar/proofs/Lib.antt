pub mod Fronts
pub mod Roads
pub mod Cells
pub mod Forms
