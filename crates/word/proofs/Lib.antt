pub mod Laws
pub mod Manual
