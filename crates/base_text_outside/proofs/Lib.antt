pub mod CfgLemmas
pub mod Counts
pub mod Filled
pub mod Questions
