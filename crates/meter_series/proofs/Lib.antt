pub mod Arrays
pub mod Determined
