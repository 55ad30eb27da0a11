pub mod Laws
pub mod Output
pub mod OutputLaws
pub mod Queries
pub mod ReadWorkspace
pub mod Shuffle
pub mod Workspace
