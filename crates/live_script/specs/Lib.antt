pub mod Fault
pub mod Laws
pub mod Run
pub mod Session
pub mod Turn
pub mod Written
