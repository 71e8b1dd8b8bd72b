pub mod Runs
pub mod Texts
pub mod Digits
pub mod Stamps
pub mod Parts
