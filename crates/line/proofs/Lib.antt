pub mod Lowest
pub mod Examples
