pub mod Digits
pub mod PlanLaws
pub mod FormLaws
pub mod Running
pub mod Sealing
pub mod Presence
