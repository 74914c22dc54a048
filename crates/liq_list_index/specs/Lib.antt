pub mod Followed
pub mod EntrySets
pub mod Rows
pub mod Sides
