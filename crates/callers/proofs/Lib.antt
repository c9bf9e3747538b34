pub mod Points
pub mod Words
pub mod Executing
pub mod Sites
