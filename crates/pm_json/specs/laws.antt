-- the laws of the tables: what is read of a document is read again from what is written of it
pub mod Kinds
pub mod Dep
pub mod Parts
pub mod CrateData
pub mod ProjectJsonData
