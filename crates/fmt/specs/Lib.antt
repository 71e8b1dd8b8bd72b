pub mod Formats
pub mod Writing
pub mod Code
