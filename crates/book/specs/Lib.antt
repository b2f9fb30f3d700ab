pub mod Book
pub mod Valid
pub mod Run
