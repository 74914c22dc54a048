pub mod Happened
pub mod Exact
pub mod Gains
pub mod Kept
pub mod Lines
pub mod Reading
