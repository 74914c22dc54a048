pub mod Added
pub mod BooksOf
mod Kept
pub mod Parts
pub mod Standing
