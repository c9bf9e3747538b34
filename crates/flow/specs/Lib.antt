pub mod Flow
pub mod Due
