pub mod Generations
pub mod Numbers
