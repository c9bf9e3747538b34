pub mod Executing
pub mod Returning
pub mod Cell
