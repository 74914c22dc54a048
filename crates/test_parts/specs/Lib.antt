pub mod Two
pub mod World
