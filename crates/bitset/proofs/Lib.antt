pub mod Bits
pub mod Sets
pub mod Lows
pub mod Nexts
pub mod Highs
pub mod Lasts
pub mod Joins
