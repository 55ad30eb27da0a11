pub mod DetachedRoots
pub mod JsonDocument
pub mod JsonRoots
pub mod Loading
pub mod Located
pub mod Metadata
pub mod Roots
pub mod ToolAnswers
