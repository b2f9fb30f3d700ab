pub mod Determined
pub mod Scan
