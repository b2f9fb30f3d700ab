pub mod Run
pub mod Asks
