pub mod Asked
pub mod Held
pub mod Names
pub mod Opened
pub mod Output
pub mod Taking
pub mod Unopened
