pub mod Laws
pub mod Payloads
pub mod RoundTrip
