pub mod Books
pub mod Steps
