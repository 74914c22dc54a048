mod Asking
mod Striking
pub mod ToldVictims
