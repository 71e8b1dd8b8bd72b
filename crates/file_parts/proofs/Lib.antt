pub mod Lengths
pub mod Stores
