pub mod Telling
pub mod Asking
pub mod Passing
pub mod Words
