pub mod Paid
pub mod Asked
pub mod Staked
pub mod Answering
pub mod Shares
