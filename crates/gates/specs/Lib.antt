pub mod Gates
pub mod Rules
