pub mod Build
pub mod Crates
pub mod LiveTexts
pub mod Project
pub mod Roots
pub mod SharedConfig
pub mod Sources
