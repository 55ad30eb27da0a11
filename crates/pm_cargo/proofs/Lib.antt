pub mod Equalities
pub mod LimitLemmas
pub mod NodeOrderLemmas
pub mod OutputEqualities
pub mod QueryLemmas
pub mod ReadLemmas
pub mod ShuffleLemmas
pub mod WithinLemmas
