pub mod Heads
pub mod Opens
