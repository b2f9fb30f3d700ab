pub mod Table
pub mod Counting
pub mod Determined
pub mod Picking
