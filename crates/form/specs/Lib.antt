pub mod Forms
pub mod Code
