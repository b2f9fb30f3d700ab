pub mod Heads
pub mod Asks
