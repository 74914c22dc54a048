pub mod Bound
pub mod Rate
