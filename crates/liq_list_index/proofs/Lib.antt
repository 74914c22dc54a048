mod Behind
mod Beside
pub mod Following
mod Halves
mod Holding
pub mod Members
mod Parts
mod Shifting
mod Standing
mod Stands
mod Stored
