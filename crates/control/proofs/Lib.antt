pub mod Direct
pub mod Pages
