pub mod Series
pub mod Asks
