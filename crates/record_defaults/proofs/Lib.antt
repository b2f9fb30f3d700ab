pub mod Determined
pub mod Figures
pub mod Inside
