pub mod Determined
pub mod Within
