pub mod Files
pub mod Code
