pub mod Determined
pub mod Ranges
pub mod Arrays
pub mod Years
