pub mod Upgrades
pub mod Cases
pub mod Demand3
pub mod Words
pub mod Code
pub mod ForTheCode
