pub mod Determined
pub mod Inside
pub mod Ranges
pub mod Within
