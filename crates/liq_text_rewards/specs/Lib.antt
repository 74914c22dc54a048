pub mod Tagged
pub mod Happened
pub mod Rewarded
pub mod Telling
