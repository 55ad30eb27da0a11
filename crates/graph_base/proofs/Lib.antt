mod BackLemmas
pub mod BlockLemmas
pub mod ClearLemmas
pub mod EdgeListLemmas
pub mod FinishLemmas
pub mod KeepingLemmas
pub mod KeptLemmas
pub mod ListingLemmas
pub mod MarkLemmas
pub mod NextRankLemmas
pub mod PathLemmas
pub mod PushingLemmas
pub mod RankLemmas
pub mod ReachLemmas
pub mod ResultLemmas
pub mod RingLemmas
mod RowLemmas
pub mod SearchLemmas
pub mod SpreadingLemmas
pub mod TrailLemmas
pub mod WalkLemmas
