pub mod Sums
pub mod Asks
