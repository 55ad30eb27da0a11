pub mod Closure
pub mod Gathering
pub mod Members
pub mod SharedLists
