pub mod Determined
pub mod Entry
pub mod Left
