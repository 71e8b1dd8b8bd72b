pub mod Answered
pub mod Payloads
pub mod Promises
