pub mod Exit
pub mod Got
