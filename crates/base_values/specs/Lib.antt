pub mod ByNumberEq
pub mod ByNumberLends
pub mod ByText
pub mod Equality
pub mod Outcome
pub mod Sorted
pub mod Version
pub mod formers
