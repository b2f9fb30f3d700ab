pub mod Determined
pub mod Parts
pub mod Conserved
pub mod Runs
pub mod Same
pub mod Demand3
pub mod Years
