pub mod Apart
pub mod Determined
pub mod One
pub mod Ends
mod Table
pub mod Entries
pub mod Right
pub mod Drop
