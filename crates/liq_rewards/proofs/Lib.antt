mod Steps
mod Earning
mod Issuing
pub mod Along
pub mod Conserving
mod Reading
pub mod Small
mod Dealing
mod Keeping
mod Following
mod Changing
mod Finding
