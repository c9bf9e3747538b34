pub mod Admission
pub mod Lowest
