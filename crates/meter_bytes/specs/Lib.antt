pub mod Format
pub mod Asks
