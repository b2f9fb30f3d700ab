pub mod Carrying
pub mod Determined
pub mod Posting
pub mod Reading
pub mod Slots
