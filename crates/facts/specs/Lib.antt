pub mod Facts
pub mod Record
