pub mod Determined
pub mod Digits
pub mod Edges
pub mod Laying
pub mod Lengths
pub mod Minus
