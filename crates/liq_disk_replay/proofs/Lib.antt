mod Replays
pub mod Runs
