mod Chained
mod Chains
pub mod Changed
pub mod Found
mod Kept
pub mod Listing
mod Marks
mod Placed
pub mod Present
pub mod Ranking
mod Rising
mod Rows
mod Seen
mod Sorted
pub mod Sorting
mod Windows
