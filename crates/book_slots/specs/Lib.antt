pub mod Field
pub mod Reads
