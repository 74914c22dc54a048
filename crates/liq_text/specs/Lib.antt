pub mod Spelling
pub mod Topics
pub mod Names
pub mod Reading
pub mod Pieces
pub mod Replies
pub mod Writing
