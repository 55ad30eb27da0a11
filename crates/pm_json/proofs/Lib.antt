pub mod Equalities
pub mod LimitLemmas
mod ReadingLemmas
pub mod Steps
