pub mod Bytes
pub mod Called
pub mod Cuts
pub mod EntryNames
pub mod Facts
pub mod Fronts
mod Gaves
pub mod LineEnds
pub mod Listing
pub mod Ordered
mod Parts
pub mod Puts
pub mod Wholes
