pub mod Determined
pub mod Ranges
pub mod Bounds
pub mod Signs
