pub mod Ds64Entries
pub mod Search
pub mod Sizes
pub mod Told
