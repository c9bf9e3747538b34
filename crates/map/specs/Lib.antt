pub mod Map
pub mod Ones
