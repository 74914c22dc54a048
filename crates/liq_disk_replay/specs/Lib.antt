pub mod Retold
pub mod Making
