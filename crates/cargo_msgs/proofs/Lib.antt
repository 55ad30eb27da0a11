pub mod Parts
mod ReadBack
pub mod Steps
mod Streams
