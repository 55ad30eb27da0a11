pub mod Numbers
pub mod ValueLemmas
