pub mod Fields
pub mod Hashed
pub mod Versions
