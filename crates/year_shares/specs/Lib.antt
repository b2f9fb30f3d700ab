pub mod Shares
pub mod Asks
