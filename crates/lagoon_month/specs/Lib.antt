pub mod Month
pub mod Asks
