pub mod Folders
pub mod GivesBack
pub mod Joins
pub mod RootManifest
pub mod Try
