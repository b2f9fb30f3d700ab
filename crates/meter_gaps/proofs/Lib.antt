pub mod Determined
pub mod Ends
pub mod Filled
pub mod Maximal
pub mod Sizes
pub mod Stepping
pub mod Within
mod Walk
