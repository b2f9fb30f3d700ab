pub mod Determined
pub mod EachKind
pub mod Hours
pub mod Numbers
pub mod Passing
pub mod Readings
pub mod Totals
