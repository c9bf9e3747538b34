pub mod Beginning
pub mod Hub
pub mod Turning
pub mod Rounds
