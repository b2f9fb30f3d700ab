pub mod Herd
