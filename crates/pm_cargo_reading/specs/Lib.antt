pub mod Errors
pub mod Gathering
pub mod Links
pub mod Nodes
pub mod Packages
pub mod Presence
pub mod Reading
