pub mod Appending
mod Basing
mod Beginning
mod Calling
mod Counts
mod Following
mod Generations
mod Going
mod Limits
mod Listing
mod Looking
mod OneDisk
mod Opening
pub mod Past
pub mod Recovered
mod Rulings
mod Shutting
mod Steps
mod Turning
mod Verbs
