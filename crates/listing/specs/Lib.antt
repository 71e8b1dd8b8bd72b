pub mod Listings
pub mod Code
