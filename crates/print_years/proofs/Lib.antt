pub mod Determined
pub mod Lengths
pub mod Walk
pub mod Worked
