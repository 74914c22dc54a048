pub mod Ends
mod Gathered
pub mod Residual
