mod JsonLemmas
mod JsonRootLemmas
pub mod LoadingLemmas
pub mod MadeLemmas
pub mod MetadataLemmas
pub mod RootCounts
pub mod RootLemmas
mod ToolLemmas
