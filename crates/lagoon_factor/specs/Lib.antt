pub mod Rule
pub mod Factor
