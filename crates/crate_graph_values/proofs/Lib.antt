pub mod ContentsOn
pub mod EnvLemmas
pub mod LawLemmas
pub mod NameLemmas
