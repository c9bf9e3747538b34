pub mod Foretell
pub mod Counting
