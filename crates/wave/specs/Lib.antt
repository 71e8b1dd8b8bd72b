pub mod Scans
pub mod Judgements
pub mod Tables
pub mod Grammar
pub mod Demand3
pub mod Words
pub mod Code
