mod BuildLemmas
mod DetachedLemmas
mod EqualityLemmas
mod GraphLemmas
mod JsonLemmas
pub mod LimitLemmas
mod LineLemmas
mod ProjectLemmas
pub mod SmallLemmas
