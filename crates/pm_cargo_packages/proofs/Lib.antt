pub mod Equalities
pub mod TargetKindLemmas
pub mod UpdateLemmas
