pub mod Records
pub mod Writing
pub mod Slices
pub mod Code
pub mod Cases
