pub mod Door
pub mod Counting
pub mod Examples
