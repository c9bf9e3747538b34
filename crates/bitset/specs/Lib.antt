pub mod Bitset
pub mod Words
