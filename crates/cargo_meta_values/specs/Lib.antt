pub mod Dependency
pub mod Errors
pub mod Kinds
pub mod Names
pub mod Resolve
pub mod Target
pub mod laws
