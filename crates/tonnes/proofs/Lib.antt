pub mod Determined
pub mod Filings
pub mod Nearest
pub mod Rounding
