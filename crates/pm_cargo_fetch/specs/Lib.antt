pub mod Fetch
pub mod Lines
pub mod Options
pub mod Questions
pub mod Reports
pub mod Settings
