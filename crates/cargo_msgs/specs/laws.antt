-- the laws of the tables: what is read of a document is read again from what is written of it
pub mod Levels
pub mod Span
pub mod Diagnostic
pub mod Debuginfo
pub mod Artifact
pub mod Build
pub mod Messages
