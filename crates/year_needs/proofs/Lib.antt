pub mod Determined
pub mod Ranges
pub mod Passing
pub mod Lined
