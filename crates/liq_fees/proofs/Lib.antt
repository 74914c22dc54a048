mod Steps
mod Holding
mod Conserving
mod Keeping
mod Reading
