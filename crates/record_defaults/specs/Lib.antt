pub mod Tables
pub mod StandsFor
