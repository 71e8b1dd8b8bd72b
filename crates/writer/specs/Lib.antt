pub mod WayBack
pub mod Cases
pub mod Code
