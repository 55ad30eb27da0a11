pub mod Durability
pub mod EditionedFileId
pub mod Files
pub mod SourceRoot
