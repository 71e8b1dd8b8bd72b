pub mod Checked
pub mod Listings
mod Passing
mod Tallied
