pub mod Patterns
pub mod Entries
pub mod Parts
