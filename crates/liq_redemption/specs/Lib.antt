pub mod Answers
pub mod Given
pub mod Last
pub mod Parts
pub mod Redemption
pub mod Walk
