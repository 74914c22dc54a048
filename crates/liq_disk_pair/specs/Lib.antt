pub mod Commands
pub mod Examples
pub mod Kept
pub mod Pair
pub mod Past
pub mod Replay
pub mod Sides
pub mod Unfinished
