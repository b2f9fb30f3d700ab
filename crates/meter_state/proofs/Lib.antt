pub mod Determined
pub mod States
