pub mod Fed
pub mod Following
pub mod Judging
