pub mod Credit
pub mod Asks
