pub mod Quotient
pub mod Power
pub mod Ratio
