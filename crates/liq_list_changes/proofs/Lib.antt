pub mod Following
mod Settling
