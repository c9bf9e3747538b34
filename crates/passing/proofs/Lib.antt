pub mod Joining
pub mod Passing
pub mod Going
pub mod Loans
