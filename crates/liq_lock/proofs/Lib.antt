mod Ends
pub mod Fresh
pub mod Histories
mod Moved
mod Parts
mod Rests
mod Sentences
mod Sums
mod Turns
mod Waits
