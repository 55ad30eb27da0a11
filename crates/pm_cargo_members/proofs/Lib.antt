pub mod ClosureLemmas
pub mod EntryLemmas
pub mod GraphLemmas
pub mod ListLemmas
pub mod MemberLemmas
