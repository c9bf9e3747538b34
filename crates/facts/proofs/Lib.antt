pub mod Order
pub mod Cells
pub mod Mask
pub mod Records
pub mod Makes
pub mod Overflow
