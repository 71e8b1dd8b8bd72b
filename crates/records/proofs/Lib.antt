pub mod Payloads
pub mod Values
