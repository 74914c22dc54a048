pub mod Examples
pub mod Kept
pub mod Own
pub mod Rows
pub mod StakeSums
pub mod Standing
