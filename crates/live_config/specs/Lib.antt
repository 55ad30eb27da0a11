pub mod Config
pub mod Limits
pub mod Options
pub mod Values
