pub mod Laws
pub mod Library
