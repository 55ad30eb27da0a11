pub mod Asked
pub mod Lines
pub mod Outputs
mod Reports
