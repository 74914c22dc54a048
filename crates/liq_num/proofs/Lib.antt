pub mod Digits
mod Squaring
mod Halving
mod Fractions
pub mod Floors
