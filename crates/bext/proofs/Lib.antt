pub mod Answers
pub mod Stores
pub mod Outs
pub mod RoundTrip
pub mod Cases
pub mod Held
