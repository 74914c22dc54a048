pub mod Auditing
pub mod Costs
mod Enclosing
pub mod Fitting
mod Watchers
