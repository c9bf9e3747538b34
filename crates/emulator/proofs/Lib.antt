pub mod Written
pub mod Going
pub mod Door
pub mod Laws
pub mod Values
pub mod Range
pub mod Addresses
pub mod Overflow
