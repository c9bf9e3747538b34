pub mod Laws
pub mod Shifts
