mod Batches
mod Calling
pub mod Chronicles
pub mod Gathering
mod Learning
pub mod Moments
pub mod Pasts
mod Seating
mod Telling
mod Unentered
