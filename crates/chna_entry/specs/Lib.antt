pub mod Ids
pub mod Entries
pub mod Code
