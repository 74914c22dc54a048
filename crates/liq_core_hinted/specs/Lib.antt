pub mod Hints
pub mod ListGuides
