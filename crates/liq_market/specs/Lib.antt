pub mod Answering
pub mod Content
pub mod Lists
pub mod Saving
pub mod Touching
