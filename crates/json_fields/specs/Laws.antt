-- the laws of tables: what is read of members that were written, and what is kept of a document that was read
pub mod Parts
pub mod Depths
pub mod Rows
pub mod ReadAgain
pub mod RoundTrips
pub mod TextForms
pub mod Cfgs
pub mod Numbers
pub mod Pairs
pub mod Names
pub mod Nested
pub mod Wholes
