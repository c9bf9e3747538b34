pub mod Findings
pub mod Queries
