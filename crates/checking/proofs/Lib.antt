pub mod Scanning
pub mod Faults
pub mod Judging
pub mod Accepting
pub mod Range
