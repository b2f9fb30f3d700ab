pub mod Grams
