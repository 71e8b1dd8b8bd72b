pub mod Sizes
pub mod Told
pub mod Code
