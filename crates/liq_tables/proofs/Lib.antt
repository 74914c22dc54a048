pub mod Filling
mod Listed
mod Numbers
mod Pages
mod Room
