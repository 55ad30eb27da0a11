pub mod Defaults
pub mod Laws
pub mod Lockfile
pub mod MetadataDefaults
pub mod Overrides
pub mod TargetDir
pub mod Variables
pub mod Versions
