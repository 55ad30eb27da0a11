mod AloneLemmas
pub mod AmongLemmas
pub mod CargoLemmas
pub mod ClosedFrontLemmas
pub mod ColumnLemmas
pub mod EdgeLemmas
pub mod FileLemmas
pub mod FoldLemmas
pub mod FrontLemmas
pub mod GatheredLemmas
mod JsonEdgeLemmas
mod JsonLoweringLemmas
mod JsonRowLemmas
pub mod KeepLemmas
pub mod KeptLemmas
pub mod LimitLemmas
pub mod LoweredLemmas
pub mod LoweringLemmas
pub mod PublicLemmas
pub mod RankLemmas
pub mod ReachLemmas
pub mod RelationLemmas
pub mod RenamedLemmas
pub mod RowLemmas
pub mod ShownLemmas
pub mod TargetLemmas
pub mod UnrankedLemmas
pub mod WithinLemmas
