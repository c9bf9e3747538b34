pub mod Passing
pub mod Tables
