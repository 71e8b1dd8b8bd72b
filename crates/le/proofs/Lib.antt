pub mod Laws
pub mod Eight
