pub mod Laws
pub mod Joins
