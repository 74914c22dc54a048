pub mod Beginning
pub mod Ended
mod Pieces
mod Telling
mod Underway
