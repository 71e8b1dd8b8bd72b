pub mod Names
pub mod Fields
pub mod Refusals
pub mod Sources
pub mod Tables
pub mod Walks
pub mod Writes
pub mod Code
