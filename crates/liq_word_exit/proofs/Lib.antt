pub mod Causes
pub mod Damaged
pub mod EndingLines
pub mod Opened
pub mod Passing
pub mod Shares
pub mod Shown
