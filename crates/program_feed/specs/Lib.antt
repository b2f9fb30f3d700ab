pub mod Blocks
pub mod Input
