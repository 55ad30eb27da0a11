pub mod Copies
pub mod Ids
pub mod Laws
pub mod TargetKinds
