pub mod Adjusting
pub mod Allowed
pub mod Borrowing
pub mod Checks
pub mod Given
