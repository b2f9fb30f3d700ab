pub mod Determined
pub mod EachFloat
pub mod Headers
pub mod Long
