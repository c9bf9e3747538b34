pub mod Fits
pub mod Apart
pub mod Calls
