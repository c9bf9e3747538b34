pub mod Field
