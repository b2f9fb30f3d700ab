pub mod Determined
pub mod Ranges
pub mod Sharing
