pub mod Shape
pub mod Step
pub mod Overflow
pub mod Unseen
pub mod Parts
pub mod Numbers
