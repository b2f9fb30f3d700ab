pub mod Determined
pub mod Ranges
