pub mod Places
pub mod Tables
pub mod Openings
pub mod Back
pub mod Upgrades
pub mod WayBack
pub mod Cases
