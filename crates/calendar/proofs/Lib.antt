pub mod Determined
pub mod Months
pub mod Range
pub mod YearSum
pub mod Examples
