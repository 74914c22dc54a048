pub mod Applied
pub mod Given
pub mod Lowest
pub mod Moment
pub mod One
