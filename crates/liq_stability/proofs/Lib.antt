pub mod Falling
mod Finishing
pub mod Following
mod Holding
mod Keeping
pub mod LawfulLists
pub mod LawfulTests
pub mod Pool
pub mod PoolPart
pub mod Promise
pub mod Reading
pub mod Rising
pub mod Standing
pub mod Tests
pub mod Whole
