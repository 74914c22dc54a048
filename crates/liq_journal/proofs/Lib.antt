pub mod Appending
pub mod Bodies
mod Counting
mod Creating
mod Going
mod HeaderFound
pub mod Heading
pub mod Looks
mod Opening
pub mod Parity
mod Parting
pub mod Reading
mod Scanning
mod Settling
pub mod Testing
mod Told
