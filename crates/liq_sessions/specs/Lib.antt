pub mod Generated
pub mod Ran
pub mod Sessions
pub mod Waiting
