pub mod PlainTables
pub mod GateRules
