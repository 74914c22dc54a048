pub mod Fields
mod Loop
mod Rows
pub mod Images
mod Putting
pub mod Lengths
mod Encoded
mod Places
