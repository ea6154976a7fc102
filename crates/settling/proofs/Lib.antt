pub mod Buffers
pub mod WorkedOut
pub mod SettleRules
pub mod LatestRules
pub mod Bounds
pub mod SettleWrites
pub mod LatestWrites
pub mod LatestAgain
