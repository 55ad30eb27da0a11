mod Copies
pub mod Entries
mod LawLemmas
