mod Beside
mod ChangedTexts
mod ContentLaws
mod Contents
mod Dependents
mod Equality
mod Filtered
mod GivenRoots
mod IdentityLaws
mod InputLaws
mod ItselfFirst
mod KnownLemmas
mod Numbers
mod PlaceLemmas
mod PutLemmas
mod Run
mod RunLemmas
pub mod RunSteps
mod SetAgain
mod SetLemmas
pub mod TableLemmas
