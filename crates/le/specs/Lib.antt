pub mod Number
pub mod Choice
