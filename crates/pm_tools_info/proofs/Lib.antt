pub mod Atoms
pub mod Hosts
pub mod Lines
pub mod Targets
pub mod Texts
pub mod Words
