pub mod Bounds
pub mod Determined
