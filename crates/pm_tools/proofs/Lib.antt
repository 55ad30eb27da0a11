mod ArtifactLemmas
pub mod Equalities
mod FeatureLemmas
mod LibraryLemmas
mod LineLemmas
mod OutputLemmas
mod PackageLemmas
mod ReadingLemmas
mod ScriptLemmas
mod SharedLemmas
