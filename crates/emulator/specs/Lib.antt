pub mod Run
pub mod Parts
pub mod Addresses
pub mod Overflow
