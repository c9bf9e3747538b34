pub mod Safe
pub mod Demand
pub mod Unseen
pub mod Accepted
