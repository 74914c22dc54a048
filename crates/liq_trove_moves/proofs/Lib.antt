pub mod Entries
pub mod Others
mod Taken
