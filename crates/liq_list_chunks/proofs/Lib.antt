mod Added
mod Around
pub mod Lists
mod Nearest
mod Short
mod Standing
mod Stored
