mod Halving
mod Refusing
mod Telling
